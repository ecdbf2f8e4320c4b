-- The rows in which each variable stands.
use Rattle.std.specs.Prelude.{◌≡◌, ℕ, List, [], map, true, ◌⊎◌, Some, Vec, slice_index_or}
use Rattle.std.specs.declared.alloc.Global.{Global}
use Rattle.std.specs.Ordering.{nat_cmp}
use Rattle.std.specs.BTreeMap.{get}
use Rattle.bg_elim.specs.Kept.{is_in}
use Rattle.bg_elim.specs.declared.columns.Columns.{Columns}

-- the list at a place
abbrev pub numbers_at : List (Vec ℕ Global) → ℕ → List ℕ
numbers_at lists p = slice_index_or (map (λ v. v.items) lists) p []

-- nothing is taken out
abbrev pub Keeps : List (Vec ℕ Global) → List (Vec ℕ Global) → Type 0
Keeps old new = (p n : ℕ) → is_in n (numbers_at old p) ≡ true → is_in n (numbers_at new p) ≡ true

-- a row's number is in a list at the place of a variable
pub record Stands (cs : Columns) (x n : ℕ) : Type 0 where
  pub place : ℕ
  pub found : get nat_cmp cs.places x ≡ Some place
  pub inside : (is_in n (numbers_at cs.even.items place) ≡ true) ⊎ (is_in n (numbers_at cs.odd.items place) ≡ true)
