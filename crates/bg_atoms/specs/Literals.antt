-- Which literal says that a row holds.
use Rattle.std.specs.Prelude.{ℕ, suc, Bool, true, false, not, ◌&&◌, if◌then◌else◌, List, [], ◌∷◌, Option, Some, None}
use Rattle.bg_rows.specs.Rows.{RowOf}
use Rattle.bg_formula.specs.declared.atom.Literal.{Literal}
use Rattle.bg_formula.specs.Atoms.{AtomOf, IsTruth, IsRow, row_eq}

-- where rows are the atoms from n on: the literal of the first one that is this row, or that this row denies
abbrev pub literal_of : RowOf → ℕ → List AtomOf → Option Literal
literal_of r n [] = None
literal_of r n (IsTruth x ∷ rs) = literal_of r (suc n) rs
literal_of r n (IsRow a d ∷ rs) =
    if row_eq a r then Some (record { atom = n; sign = true })
    else if row_eq d r then Some (record { atom = n; sign = false })
    else literal_of r (suc n) rs

-- no row of the list is this one
abbrev pub is_none_of : RowOf → List AtomOf → Bool
is_none_of r [] = true
is_none_of r (IsTruth x ∷ rs) = is_none_of r rs
is_none_of r (IsRow a d ∷ rs) = not (row_eq r a) && is_none_of r rs

-- no row stands twice, and none is the denial of another one before it
abbrev pub are_apart : List AtomOf → Bool
are_apart [] = true
are_apart (IsTruth x ∷ rs) = are_apart rs
are_apart (IsRow r d ∷ rs) = is_none_of r rs && (is_none_of d rs && are_apart rs)
