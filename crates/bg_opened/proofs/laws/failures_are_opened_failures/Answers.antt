use Rattle.bg_opened.proofs.Whole.{opens, closes, closed_runs}
use Rattle.bg_opened.proofs.laws.failures_are_opened_failures.Goals as goal

pub returns-clause-opened : goal.returns-clause-opened
returns-clause-opened c = λ depth p set t i s choices h. opens depth p h set t i s choices

pub returns-clause-closed : goal.returns-clause-closed
returns-clause-closed c = λ depth p set t i s choices h. closes depth p h set t i s choices

pub returns-clause-runs : goal.returns-clause-runs
returns-clause-runs c = λ depth p set t i s choices others h. closed_runs depth p h set t i s choices others
