use Rattle.bg_blocks.specs.Views.{block_of}
use Rattle.bg_blocks.proofs.Undoing.{drop_whole}
use Rattle.bg_incarnate.specs.Views.{held_env}
use Rattle.bg_incarnate.specs.Walked.{walked_of}
use Rattle.bg_incarnate.proofs.Turns.{walk_step, firsts_step, after_step, walk_end, firsts_end, after_end}
use Rattle.bg_incarnate.proofs.walk.walk.Goals as goal

pub loop-b-preserved : goal.loop-b-preserved
loop-b-preserved c =
    let bs = c.args.blocks.now in
    let i = c.loop-b.b-index in
    let b = c.b-item.result in
    let entry = held_env c.args.entry.now in (
      λ p. walk_step (block_of p) walked_of entry bs i b _ _ _ _ c.loop-b.made.items _ c.in_ok-w.w _ c.loop-b-test.true c.b-item.is (c.in_ok-w.ensures.walked p) (c.in_ok-w.ensures.ways p) (c.in_ok-w.ensures.more p) c.in_ok-push_back.ensures.items (c.loop-b.invariant.0 p),
      λ p. firsts_step (block_of p) walked_of entry bs i b _ _ _ _ c.loop-b.firsts.items _ c.in_ok-w.w _ c.loop-b-test.true c.b-item.is (c.in_ok-w.ensures.walked p) (c.in_ok-w.ensures.ways p) (c.in_ok-w.ensures.more p) c.in_ok-push.ensures.items (c.loop-b.invariant.1 p),
      λ p. after_step (block_of p) entry bs i b _ _ _ _ _ c.loop-b-test.true c.b-item.is (c.in_ok-w.ensures.ways p) (c.in_ok-w.ensures.more p) (c.loop-b.invariant.2 p),
    )

pub returns-clause-walked : goal.returns-clause-walked
returns-clause-walked c =
    λ p. walk_end (block_of p) walked_of (held_env c.args.entry.now) _ _ _ c.loop-b.made.items _ (drop_whole c.loop-b.b-index c.args.blocks.now c.loop-b-test.false) (c.loop-b.invariant.0 p)

pub returns-clause-firsts : goal.returns-clause-firsts
returns-clause-firsts c =
    λ p. firsts_end (block_of p) (held_env c.args.entry.now) _ _ _ _ _ (drop_whole c.loop-b.b-index c.args.blocks.now c.loop-b-test.false) (c.loop-b.invariant.1 p)

pub returns-clause-more : goal.returns-clause-more
returns-clause-more c =
    λ p. after_end (block_of p) (held_env c.args.entry.now) _ _ _ _ (drop_whole c.loop-b.b-index c.args.blocks.now c.loop-b-test.false) (c.loop-b.invariant.2 p)
