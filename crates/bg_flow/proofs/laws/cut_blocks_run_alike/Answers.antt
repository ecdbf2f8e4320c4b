use Rattle.bg_flow.proofs.CutRuns.{cut_same}
use Rattle.bg_flow.proofs.laws.cut_blocks_run_alike.Goals as goal

pub returns : goal.returns
returns c = cut_same
