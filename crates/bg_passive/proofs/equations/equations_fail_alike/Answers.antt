use Rattle.bg_passive.proofs.EquationRuns.{equations_same}
use Rattle.bg_passive.proofs.equations.equations_fail_alike.Goals as goal

pub returns : goal.returns
returns c = equations_same
