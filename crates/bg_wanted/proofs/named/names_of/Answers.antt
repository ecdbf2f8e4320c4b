use Rattle.std.proofs.Common.{◌+◌, ap, sym, ◌∙◌, subst}
use Rattle.bg_term_table.specs.Lines.{lines_of}
use Rattle.bg_wanted.specs.Wanting.{IsWanting}
use Rattle.bg_wanted.proofs.Answering.{names_wanted, two_pushed}
use Rattle.bg_wanted.proofs.named.names_of.Goals as goal

pub returns : goal.returns
returns c =
    λ incs ts s len indexed one unfinished.
    subst (λ ls. IsWanting incs ts s (lines_of ls)) (sym (two_pushed _ _ _ _ _ c.new-made.ensures.items c.in_ok-push.ensures.items c.in_ok-push-2.ensures.items))
    (names_wanted incs ts s c.args.a c.args.b c.args.parts c.in_ok-s.s c.in_ok-r.r indexed one (c.in_ok-s.ensures ∙ ap (λ n. n + c.args.parts) len) c.in_ok-r.ensures unfinished)
