-- Rows among atoms, by their numbers.
use Rattle.std.specs.Prelude.{◌≡◌, ℕ, suc, Bool, List, [], ◌∷◌, ℤ}
use Rattle.bg_rows.specs.Rows.{holds}
use Rattle.bg_formula.specs.Atoms.{AtomOf, IsTruth, IsRow}

-- each is a row
abbrev pub AreRows : List AtomOf → Type 0
AreRows [] = Unit {0}
AreRows (IsTruth x ∷ rs) = ⊥
AreRows (IsRow r d ∷ rs) = AreRows rs

-- the atoms from n on are worth what these rows are
abbrev pub RowsAgree : (ℕ → ℤ) → (ℕ → Bool) → ℕ → List AtomOf → Type 0
RowsAgree numbers truth n [] = Unit {0}
RowsAgree numbers truth n (IsTruth x ∷ rs) = ⊥
RowsAgree numbers truth n (IsRow r d ∷ rs) = (truth n ≡ holds numbers r) × RowsAgree numbers truth (suc n) rs
