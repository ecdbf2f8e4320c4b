use Rattle.std.proofs.Common.{◌≡◌, ◌≤◌, ◌++◌, drop, length}
use Rattle.bg_bodies.specs.Bodies.{labels_in}
use Rattle.bg_names.specs.Views.{inside_of}
use Rattle.bg_bodies.specs.Views.{ahead_of, tree_sts}
use Rattle.bg_bodies.proofs.bodies.enter_labels.Given as goal

abbrev pub invariant-loop-left : goal.invariant-loop-left
invariant-loop-left l =
    (l.left ≤ length l.ss)
    × (ahead_of l.walk ≡ labels_in (inside_of l.inside) (tree_sts (drop l.left l.ss)) ++ ahead_of l.fn.walk)
    × (l.walk.next ≡ l.fn.walk.next)
    × (l.walk.notes ≡ l.fn.walk.notes)
    × (l.walk.blocks ≡ l.fn.walk.blocks)

abbrev pub decreases-loop-left : goal.decreases-loop-left
decreases-loop-left l = l.left
