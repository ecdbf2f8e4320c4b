use Rattle.bg_sense.proofs.TypedPrograms.{body_typed}
use Rattle.bg_sense.proofs.laws.typed_programs_have_typed_bodies.Goals as goal

pub returns-clause-functions : goal.returns-clause-functions
returns-clause-functions c p h = h.bodies

pub returns-clause-implementations : goal.returns-clause-implementations
returns-clause-implementations c = body_typed
