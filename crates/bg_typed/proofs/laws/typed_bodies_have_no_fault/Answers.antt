use Rattle.bg_typed.proofs.ExactBodies.{body_fine}
use Rattle.bg_typed.proofs.laws.typed_bodies_have_no_fault.Goals as goal

pub returns : goal.returns
returns c = body_fine
