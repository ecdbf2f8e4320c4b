use Rattle.bg_block_types.proofs.Whole.{good}
use Rattle.bg_block_types.proofs.laws.blocks_are_typed.Goals as goal

pub returns : goal.returns
returns c p k m q t im pr = good p k m q t im pr
