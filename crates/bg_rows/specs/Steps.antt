-- Derivations: rows made step by step from some given ones, the last of them false.
use Rattle.std.specs.Prelude.{ℕ, zero, suc, Bool, true, false, ◌&&◌, List, [], ◌∷◌, ◌++◌, Option, Some, None, ℤ, pos, int_le, Result, Ok, Err}
use Rattle.bg_base.specs.declared.exact.OutOfRange.{OutOfRange}
use Rattle.bg_rows.specs.declared.row.Row.{Row}
use Rattle.bg_rows.specs.declared.step.Step.{Step}
use Rattle.bg_rows.specs.declared.step.Step.TheVariants.{Path, Sum, Tight}
use Rattle.bg_rows.specs.Rows.{RowOf, row_of, combined, tightened, is_false}

-- the row of a number, from 0
abbrev pub row_at : List RowOf → ℕ → Option RowOf
row_at [] n = None
row_at (r ∷ rs) zero = Some r
row_at (r ∷ rs) (suc n) = row_at rs n

abbrev pub ok_of : Result RowOf OutOfRange → Option RowOf
ok_of (Ok r) = Some r
ok_of (Err e) = None

abbrev pub sum_if : Bool → RowOf → ℤ → RowOf → ℤ → Option RowOf
sum_if true r p s q = ok_of (combined r p s q)
sum_if false r p s q = None

-- p times one row and q times another, p and q at least 0
abbrev pub sum_row : Option RowOf → ℤ → Option RowOf → ℤ → Option RowOf
sum_row (Some r) p (Some s) q = sum_if (int_le (pos 0) p && int_le (pos 0) q) r p s q
sum_row _ p _ q = None

abbrev pub tight_of : Option RowOf → Option RowOf
tight_of None = None
tight_of (Some r) = Some (tightened r)

-- the row of a step, from the path's rows and those made before; None where it makes none
abbrev pub step_row : List RowOf → List RowOf → Step → Option RowOf
step_row path made (Path j) = row_at path j
step_row path made (Sum r p s q) = sum_row (row_at made r) p (row_at made s) q
step_row path made (Tight r) = tight_of (row_at made r)

-- each step makes a row, and the last one is false
abbrev pub derives : List RowOf → List RowOf → Bool → List Step → Bool
derives path made last [] = last
derives path made last (s ∷ ss) =
    elim (step_row path made s) [ None ↦ false | Some r ↦ derives path (made ++ (r ∷ [])) (is_false r) ss ]

-- the row that a call gave, if any
abbrev pub view_row : Option Row → Option RowOf
view_row None = None
view_row (Some r) = Some (row_of r)
