use Rattle.bg_flow.specs.Core.{frame_decls}
use Rattle.bg_block_types.specs.Typed.{blocks_in}
use Rattle.bg_faithful.proofs.Even.{blocks_even}
use Rattle.bg_faithful.proofs.laws.blocks_over_values_are_even.Goals as goal

pub returns : goal.returns
returns c p k m q t o im pr =
    blocks_even p (frame_decls m q) (blocks_in p k m q) (c.blocks_are_typed.ensures p k m q t im pr)
