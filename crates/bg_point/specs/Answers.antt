-- What back-substitution answers.
use Rattle.std.specs.Prelude.{ℕ, ℤ, map}
use Rattle.bg_rows.specs.Rows.{row_of}
use Rattle.bg_elim.specs.declared.order.Order.{Order}
use Rattle.bg_point.specs.declared.spot.Placed.{Placed}
use Rattle.bg_point.specs.declared.spot.Placed.TheVariants.{Point, Split, Unknown}
use Rattle.bg_point.specs.Points.{IsPoint, IsGap, IsFar}

-- a point near these targets, a gap, or an operation that leaves the range
abbrev pub IsPlaced : (ℕ → ℤ) → Order → Placed → Type 0
IsPlaced targets o (Point spots) = IsPoint targets o.variables.items (map row_of o.rows.items) spots.items
IsPlaced targets o (Split spots gap) = IsGap targets o.variables.items (map row_of o.rows.items) spots.items gap.variable gap.below gap.low gap.up
IsPlaced targets o (Unknown spots far) = IsFar targets o.variables.items (map row_of o.rows.items) spots.items far.variable far.row far.operation
