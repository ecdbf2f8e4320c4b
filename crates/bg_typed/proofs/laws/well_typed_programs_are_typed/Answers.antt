use Rattle.bg_typed.proofs.Typed.{program_typed}
use Rattle.bg_typed.proofs.laws.well_typed_programs_are_typed.Goals as goal

pub returns : goal.returns
returns c = program_typed
