use Rattle.bg_flow.proofs.CutRuns.{cut_whole}
use Rattle.bg_flow.proofs.laws.cut_gives_blocks.Goals as goal

pub returns : goal.returns
returns c = cut_whole
