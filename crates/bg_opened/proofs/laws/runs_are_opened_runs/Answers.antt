use Rattle.bg_opened.proofs.Whole.{runs}
use Rattle.bg_opened.proofs.laws.runs_are_opened_runs.Goals as goal

pub returns : goal.returns
returns c = λ depth p set i k s choices h. runs depth p h set i k s choices
