use Rattle.std.proofs.Common.{ap, ◌∙◌}
use Rattle.bg_check.specs.Verdicts.{judged}
use Rattle.bg_told.specs.Views.{status_in}
use Rattle.bg_told.specs.Words.{word_for, with_axioms}
use Rattle.bg_told.proofs.Status.{status_told}
use Rattle.bg_told.proofs.word.word_of.Goals as goal

pub returns : goal.returns
returns c = λ p.
    ap status_in (c.with_axioms.ensures ∙ ap (with_axioms c.args.outcome.now.axioms) (c.program_word.ensures ∙ ap (λ os. word_for (judged os)) c.deref.ensures.value))
    ∙ status_told p c.args.outcome.now
