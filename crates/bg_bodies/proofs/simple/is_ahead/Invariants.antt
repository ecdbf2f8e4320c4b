use Rattle.std.proofs.Common.{◌≡◌, ◌≤◌, take, length}
use Rattle.bg_names.specs.Inside.{has_number}
use Rattle.bg_names.specs.Views.{stacked}
use Rattle.bg_bodies.proofs.simple.is_ahead.Given as goal

abbrev pub invariant-loop-left : goal.invariant-loop-left
invariant-loop-left l =
    (l.left ≤ length l.ahead)
    × (has_number (stacked (take l.left l.ahead)) l.label ≡ has_number (stacked l.ahead) l.label)

abbrev pub decreases-loop-left : goal.decreases-loop-left
decreases-loop-left l = l.left
