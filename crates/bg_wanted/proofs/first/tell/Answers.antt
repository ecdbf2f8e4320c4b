use Rattle.std.proofs.Common.{[], ◌∷◌, ◌++◌, sym, ap, ◌∙◌}
use Rattle.std.specs.Prelude.{if◌then◌else◌}
use Rattle.bg_term_table.specs.declared.line.Line.TheVariants.{Congruent}
use Rattle.bg_wanted.proofs.first.tell.Goals as goal

pub returns-then-same : goal.returns-then-same
returns-then-same c =
    let es = c.args.made.now.items in
    sym (ap (λ b. if b then es else es ++ Congruent c.args.a c.args.b ∷ []) c.if-same.true)

pub returns : goal.returns
returns c =
    let es = c.args.made.now.items in
    c.in_ok-push.ensures.items ∙ sym (ap (λ b. if b then es else es ++ Congruent c.args.a c.args.b ∷ []) c.if-same.false)
