use Rattle.std.proofs.Common.{◌≡◌, ◌∷◌, refl, rules}
use Rattle.bg_blocks.specs.Views.{block_of}
use Rattle.bg_blocks.proofs.Undoing.{drop_whole}
use Rattle.bg_incarnate.proofs.Turns.{finish_step, finish_end, arrive_step, arrive_end}
use Rattle.bg_incarnate.proofs.whole.finish.Goals as goal

pub loop-b-preserved : goal.loop-b-preserved
loop-b-preserved c =
    let parts : c.loop-b.walked.items ≡ c.in-Some.w ∷ c.pop_front.new.self.items = search rules in (
      arrive_step c.args.blocks.now c.loop-b.b-index c.b-item.result c.loop-b.walked.items c.pop_front.new.self.items c.in-Some.w c.loop-b.arrivals.items c.push-in-Some.new.self.items _ _ c.loop-b-test.true c.b-item.is parts c.in_ok-push-in-Some-2.ensures.items refl c.loop-b.invariant.0,
      λ p. finish_step (block_of p) c.args.blocks.now c.loop-b.b-index c.b-item.result c.loop-b.walked.items c.pop_front.new.self.items c.in-Some.w c.loop-b.made.items c.push.new.self.items _ _ c.loop-b-test.true c.b-item.is parts c.in_ok-push-in-Some.ensures.items refl c.in_ok-next-in-Some.ensures (c.loop-b.invariant.1 p),
    )

pub returns-clause-arrivals : goal.returns-clause-arrivals
returns-clause-arrivals c =
    arrive_end _ c.loop-b.walked.items c.loop-b.arrivals.items _ (drop_whole c.loop-b.b-index c.args.blocks.now c.loop-b-test.false) c.loop-b.invariant.0

pub returns-clause-blocks : goal.returns-clause-blocks
returns-clause-blocks c = λ p. finish_end (block_of p) _ c.loop-b.walked.items c.loop-b.made.items _ (drop_whole c.loop-b.b-index c.args.blocks.now c.loop-b-test.false) (c.loop-b.invariant.1 p)
