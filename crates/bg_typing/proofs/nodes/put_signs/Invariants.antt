use Rattle.std.proofs.Common.{◌≡◌, ◌≤◌, take, length}
use Rattle.bg_kinds.specs.Faults.{first_of}
use Rattle.bg_typing.specs.Sides.{signed}
use Rattle.bg_kinds.specs.FaultViews.{best_of}
use Rattle.bg_typing.specs.SideViews.{side_of}
use Rattle.bg_typing.proofs.nodes.put_signs.Given as goal

abbrev pub invariant-loop-i : goal.invariant-loop-i
invariant-loop-i l =
    record {
      within : l.i ≤ length l.signs;
      best : first_of (best_of l.best) (signed (take l.i l.signs) (side_of l.side)).faults ≡ first_of (best_of l.fn.best) (signed l.signs (side_of l.fn.a)).faults;
      side : (signed (take l.i l.signs) (side_of l.side)).side ≡ (signed l.signs (side_of l.fn.a)).side;
    }

abbrev pub decreases-loop-i : goal.decreases-loop-i
decreases-loop-i l = l.i
