use Rattle.std.proofs.Common.{arith}
use Rattle.bg_pick.proofs.Marked.{decided_all}
use Rattle.bg_pick.proofs.mark.free_from.Goals as goal

pub returns-clause-free : goal.returns-clause-free
returns-clause-free c =
    decided_all c.args.trail.now.decisions.items c.args.n (λ a l. c.loop-a.invariant a (omega arith))
