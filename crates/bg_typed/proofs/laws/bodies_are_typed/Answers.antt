use Rattle.bg_typed.proofs.Statements.{typed_body}
use Rattle.bg_typed.proofs.laws.bodies_are_typed.Goals as goal

pub returns : goal.returns
returns c = typed_body
