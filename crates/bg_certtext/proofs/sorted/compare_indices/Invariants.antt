use Rattle.std.proofs.Common.{◌≡◌, length, map}
use Rattle.bg_certtext.specs.Views.{part_of}
use Rattle.bg_certtext.specs.Orders.{index_order}
use Rattle.bg_certtext.proofs.sorted.compare_indices.Given as goal

abbrev pub invariant-loop-left : goal.invariant-loop-left
invariant-loop-left l = index_order (map part_of l.left) (map part_of l.right) ≡ index_order (map part_of l.a) (map part_of l.b)

abbrev pub decreases-loop-left : goal.decreases-loop-left
decreases-loop-left l = length l.left
