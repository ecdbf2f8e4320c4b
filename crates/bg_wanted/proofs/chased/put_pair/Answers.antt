use Rattle.bg_wanted.proofs.Leading.{pair_more}
use Rattle.bg_wanted.proofs.chased.put_pair.Goals as goal

pub returns-then-is_pair_lost : goal.returns-then-is_pair_lost
returns-then-is_pair_lost c =
    λ fs incs si lost.
    pair_more fs incs c.args.sight si c.args.a c.args.b c.args.lost.now.items _ (c.is_pair_lost.ensures c.if-is_pair_lost.true) c.in_ok-push.ensures.items lost
