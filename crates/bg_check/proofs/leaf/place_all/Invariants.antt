use Rattle.std.proofs.Common.{◌≡◌, length}
use Rattle.bg_check.specs.Leaves.{numbered}
use Rattle.bg_check.proofs.leaf.place_all.Given as goal

abbrev pub invariant-loop-spot : goal.invariant-loop-spot
invariant-loop-spot l = numbered l.left l.numbers ≡ numbered l.spots l.fn.numbers

abbrev pub decreases-loop-spot : goal.decreases-loop-spot
decreases-loop-spot l = length l.left
