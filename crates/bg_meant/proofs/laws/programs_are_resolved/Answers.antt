use Rattle.bg_meant.proofs.Programs.{resolved_program}
use Rattle.bg_meant.proofs.laws.programs_are_resolved.Goals as goal

pub returns : goal.returns
returns c = resolved_program
