use Rattle.bg_flow.proofs.CutRuns.{loops_same}
use Rattle.bg_flow.proofs.laws.loops_run_alike.Goals as goal

pub returns : goal.returns
returns c = loops_same
