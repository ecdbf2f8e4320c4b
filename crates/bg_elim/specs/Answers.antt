-- What elimination answers.
use Rattle.std.specs.Prelude.{◌≡◌, ℕ, true, false, List, [], map}
use Rattle.bg_rows.specs.Rows.{RowOf, row_of}
use Rattle.bg_rows.specs.Steps.{derives}
use Rattle.bg_elim.specs.Kept.{FillBudget, LeavesRange, Solves}
use Rattle.bg_elim.specs.declared.order.Order.{Order}
use Rattle.bg_elim.specs.declared.order.Stop.{Stop}
use Rattle.bg_elim.specs.declared.order.Stop.TheVariants.{Rows, Range}
use Rattle.bg_elim.specs.declared.order.Found.{Found}
use Rattle.bg_elim.specs.declared.order.Found.TheVariants.{Refuted, Solvable, Unknown}

-- the order solves the rows
abbrev pub SolvedBy : List RowOf → Order → Type 0
SolvedBy given o = Solves given o.variables.items o.reasons.items (map row_of o.rows.items)

-- the budget's number of different rows, or an operation that leaves the range
abbrev pub IsStop : List RowOf → ℕ → Stop → Type 0
IsStop given budget (Rows o) = FillBudget given budget o.variables.items o.reasons.items
IsStop given budget (Range o f) =
    LeavesRange given o.variables.items o.reasons.items f.first f.second f.variable f.operation

-- a derivation of a false row, an order that solves the rows, or a cause
abbrev pub IsFound : List RowOf → ℕ → Found → Type 0
IsFound given budget (Refuted steps) = derives given [] false steps.items ≡ true
IsFound given budget (Solvable o) = SolvedBy given o
IsFound given budget (Unknown stop) = IsStop given budget stop
