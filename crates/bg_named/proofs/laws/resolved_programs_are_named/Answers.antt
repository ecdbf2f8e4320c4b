use Rattle.bg_named.proofs.Programs.{named_program}
use Rattle.bg_named.proofs.laws.resolved_programs_are_named.Goals as goal

pub returns : goal.returns
returns c = named_program
