use Rattle.bg_front.proofs.TypedPrograms.{program_resolved}
use Rattle.bg_front.proofs.laws.programs_are_resolved.Goals as goal

pub returns : goal.returns
returns c = program_resolved c.programs_are_resolved.ensures c.guesses_are_resolved.ensures
