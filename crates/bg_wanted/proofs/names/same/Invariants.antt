use Rattle.std.proofs.Common.{length}
use Rattle.bg_wanted.proofs.Ordering.{SoFar}
use Rattle.bg_wanted.proofs.names.same.Given as goal

abbrev pub invariant-loop-t : goal.invariant-loop-t
invariant-loop-t l = SoFar l.fn.tables.items l.left.items l.known

abbrev pub decreases-loop-t : goal.decreases-loop-t
decreases-loop-t l = length l.left.items
