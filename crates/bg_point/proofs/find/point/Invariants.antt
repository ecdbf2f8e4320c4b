use Rattle.std.proofs.Common.{◌≤◌, length, map}
use Rattle.bg_rows.specs.Rows.{row_of}
use Rattle.bg_point.specs.Points.{target_of}
use Rattle.bg_point.proofs.Upto.{Upto}
use Rattle.bg_point.proofs.find.point.Given as goal

abbrev pub invariant-loop-i : goal.invariant-loop-i
invariant-loop-i l = record {
  within : l.i ≤ length l.order.variables.items;
  upto : Upto (target_of l.targets) l.order.variables.items (map row_of l.order.rows.items) l.i l.spots.items;
}

abbrev pub decreases-loop-i : goal.decreases-loop-i
decreases-loop-i l = l.i
