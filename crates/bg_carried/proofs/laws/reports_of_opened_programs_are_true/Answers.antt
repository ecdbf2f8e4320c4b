use Rattle.bg_carried.proofs.Telling.{sound}
use Rattle.bg_carried.proofs.laws.reports_of_opened_programs_are_true.Goals as goal

pub returns : goal.returns
returns c = sound
