-- What is kept at a node that splits a bound.
use Rattle.std.specs.Prelude.{ℕ, ℤ, List, map}
use Rattle.bg_rows.specs.Rows.{RowOf, row_of}
use Rattle.bg_elim.specs.Answers.{SolvedBy}
use Rattle.bg_point.specs.Points.{IsGap}
use Rattle.bg_tree.specs.declared.part.Kept.{Kept}

-- an order solves the rows, and under near values, by these targets, of its later variables no whole number fits at the gap's variable
pub record KeepsGap (targets : ℕ → ℤ) (given : List RowOf) (k : Kept) : Type 0 where
  pub solved : SolvedBy given k.order
  pub gap : IsGap targets k.order.variables.items (map row_of k.order.rows.items) k.spots.items k.gap.variable k.gap.below k.gap.low k.gap.up
