use Rattle.bg_flow.proofs.BlockRuns.{blocks_same}
use Rattle.bg_flow.proofs.laws.blocks_run_alike.Goals as goal

pub returns : goal.returns
returns c = blocks_same
