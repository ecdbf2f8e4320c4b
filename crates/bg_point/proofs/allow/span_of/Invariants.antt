use Rattle.std.proofs.Common.{◌≡◌, ◌≤◌, ◌-◌, length, map}
use Rattle.std.specs.Prelude.{Some}
use Rattle.bg_rows.specs.Rows.{RowOf, row_of}
use Rattle.bg_rows.specs.Steps.{row_at}
use Rattle.bg_point.specs.Points.{value_of}
use Rattle.bg_point.specs.Spans.{IsSpan}
use Rattle.bg_point.specs.Shelves.{stand}
use Rattle.bg_point.proofs.allow.span_of.Given as goal

abbrev pub invariant-loop-n : goal.invariant-loop-n
invariant-loop-n l = record {
  within : l.n ≤ length l.rows;
  span : IsSpan l.order (map row_of l.rows) (value_of l.spots) l.x l.n l.span;
  on : (r : RowOf) → row_at (map row_of l.rows) l.n ≡ Some r → stand l.order r.entries ≡ l.p;
}

abbrev pub decreases-loop-n : goal.decreases-loop-n
decreases-loop-n l = length l.rows - l.n
