use Rattle.std.proofs.Common.{map, ap, ◌∙◌, arith}
use Rattle.bg_text.specs.Views as v
use Rattle.bg_keep.specs.Guesses.{names_of}
use Rattle.bg_keep.proofs.Written.{behind_none}
use Rattle.bg_keep.proofs.guesses.behind.Goals as goal

pub returns-then-links-ne1 : goal.returns-then-links-ne1
returns-then-links-ne1 c =
    ap (λ l. v.links_of (map v.link_view l)) c.new.ensures.items
    ∙ behind_none (names_of c.args.f.now) c.args.links.now (λ e. let ne = c.if-links-ne1.true in omega (arith, ne, e))
