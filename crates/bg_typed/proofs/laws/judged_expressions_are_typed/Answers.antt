use Rattle.bg_typed.proofs.Judged.{typed_without_faults}
use Rattle.bg_typed.proofs.laws.judged_expressions_are_typed.Goals as goal

pub returns : goal.returns
returns c = typed_without_faults
