use Rattle.bg_resolve.proofs.Told.{one_told, told_first}
use Rattle.bg_resolve.proofs.laws.told_faults_are_one.Goals as goal

pub returns-clause-one : goal.returns-clause-one
returns-clause-one c = one_told

pub returns-clause-first : goal.returns-clause-first
returns-clause-first c = told_first
