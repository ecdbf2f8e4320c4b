use Rattle.std.proofs.Common.{inr, ◌∙◌, subst}
use Rattle.bg_recheck.specs.declared.answer.Why.{Why}
use Rattle.bg_recheck.specs.Refusals.{BadLine}
use Rattle.bg_recheck.specs.Views.{IsWhy}
use Rattle.bg_recheck.proofs.Checked.{line_written, refused_cert}
use Rattle.bg_recheck.proofs.files.refuse_for.Goals as goal

pub returns-in-Ok-clause-refused : goal.returns-in-Ok-clause-refused
returns-in-Ok-clause-refused g c = λ is bytes certificate why.
    let told = subst (λ (w : Why). IsWhy bytes certificate w) c.in-BadLine.is why in
    inr (refused_cert bytes certificate (BadLine c.in-BadLine.n) c.refuse-in-Ok.result _ _ told.0 told.1
    (line_written (BadLine c.in-BadLine.n) c.refuse-in-Ok.result _ _ c.deref.result.now is c.refuse-in-Ok.ensures.ends c.refuse-in-Ok.ensures.wrote (c.deref.ensures.value ∙ c.in-Ok.ensures)))
