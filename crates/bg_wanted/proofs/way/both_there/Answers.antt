use Rattle.bg_wanted.proofs.Leading.{old_more}
use Rattle.bg_wanted.proofs.way.both_there.Goals as goal

pub returns-then-is_old_lost : goal.returns-then-is_old_lost
returns-then-is_old_lost c =
    λ fs incs si way.
    (old_more fs incs c.args.sight si c.args.u c.args.s c.args.r c.args.way.now.lost.items _ (c.is_old_lost.ensures c.if-is_old_lost.true) c.in_ok-push.ensures.items way.0, way.1)

pub returns : goal.returns
returns c = λ fs incs si way. way
