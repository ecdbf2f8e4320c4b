use Rattle.std.proofs.Common.{arith}
use Rattle.bg_incarnate.proofs.Turns.{fresh_step}
use Rattle.bg_incarnate.proofs.held.fresh.Goals as goal

pub loop-k-preserved : goal.loop-k-preserved
loop-k-preserved c = (
  fresh_step c.loop-k.made.items _ _ c.args.n c.loop-k.k c.loop-k.next c.take_next.new.next _ c.loop-k-test.true c.in_ok-push.ensures.items c.in_ok-j.ensures.ok c.in_ok-j.ensures.more c.loop-k.invariant.0,
  omega (arith, c.loop-k-test.true, c.in_ok-j.ensures.more, c.loop-k.invariant.1),
)
