-- The rows of a path that steps name.
use Rattle.std.specs.Prelude.{◌≡◌, ℕ, ◌==◌, ◌||◌, Bool, true, false, List, [], ◌∷◌, length, slice_index_or}
use Rattle.bg_rows.specs.Rows.{RowOf}
use Rattle.bg_rows.specs.declared.step.Step.{Step}
use Rattle.bg_rows.specs.declared.step.Step.TheVariants.{Path, Sum, Tight}
use Rattle.bg_rows.specs.Steps.{row_at}

abbrev pub is_path : ℕ → Step → Bool
is_path j (Path k) = j == k
is_path j (Sum r p s q) = false
is_path j (Tight r) = false

-- whether a step names the row of this number
abbrev pub names_row : ℕ → List Step → Bool
names_row j [] = false
names_row j (s ∷ ss) = is_path j s || names_row j ss

-- whether a row is marked; those behind the marks are
abbrev pub is_named : List Bool → ℕ → Bool
is_named marks j = slice_index_or marks j true

-- as many rows, and those that are marked the same
pub record AreInPlace (marks : List Bool) (made rows : List RowOf) : Type 0 where
  pub many : length made ≡ length rows
  pub same : (j : ℕ) → is_named marks j ≡ true → row_at made j ≡ row_at rows j
