use Rattle.bg_blocks.specs.Views.{block_of}
use Rattle.bg_blocks.specs.EmittedViews.{made_of}
use Rattle.bg_blocks.proofs.Reading.{one_turned}
use Rattle.bg_blocks.proofs.program.in_order.Goals as goal

pub loop-block-preserved : goal.loop-block-preserved
loop-block-preserved c = λ p.
    one_turned (block_of p) (made_of p) c.loop-block.made.items c.push.new.self.items c.loop-block.left.items c.pop.new.self.items c.in-Some.block c.finished.result _ c.in-Some.ensures.items c.in_ok-push.ensures.items (c.finished.ensures p) (c.loop-block.invariant p)
