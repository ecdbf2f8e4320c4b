use Rattle.bg_elim.proofs.Lists.{keeps_more}
use Rattle.bg_elim.proofs.columns.extend.Goals as goal

pub loop-alloc-preserved : goal.loop-alloc-preserved
loop-alloc-preserved c = λ q n h. rw c.in_ok-push.ensures.items (keeps_more c.loop-alloc.lists.items _ q n (c.loop-alloc.invariant q n h))
