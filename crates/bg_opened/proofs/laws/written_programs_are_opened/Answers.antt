use Rattle.bg_opened.proofs.WrittenPrograms.{program_means}
use Rattle.bg_opened.proofs.laws.written_programs_are_opened.Goals as goal

pub returns : goal.returns
returns c = program_means
