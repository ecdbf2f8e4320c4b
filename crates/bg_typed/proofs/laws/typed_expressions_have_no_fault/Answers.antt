use Rattle.bg_typed.proofs.Exact.{typed_fine}
use Rattle.bg_typed.proofs.laws.typed_expressions_have_no_fault.Goals as goal

pub returns : goal.returns
returns c = typed_fine
