use Rattle.bg_opened.proofs.Whole.{safe}
use Rattle.bg_opened.proofs.laws.safe_where_no_opened_run_fails.Goals as goal

pub returns : goal.returns
returns c = λ depth p set k h. safe depth p h set k
