use Rattle.bg_carried.proofs.Telling.{told}
use Rattle.bg_carried.proofs.laws.axioms_are_told.Goals as goal

pub returns : goal.returns
returns c = told
