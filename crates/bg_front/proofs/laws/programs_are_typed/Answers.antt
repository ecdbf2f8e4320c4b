use Rattle.bg_front.proofs.TypedPrograms.{program_typed}
use Rattle.bg_front.proofs.laws.programs_are_typed.Goals as goal

pub returns : goal.returns
returns c = program_typed c.programs_are_resolved.ensures c.guesses_are_typed.ensures
