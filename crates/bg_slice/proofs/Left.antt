-- Rows, of which some are left out.
use Rattle.std.proofs.Common.{◌≡◌, ℕ, suc, Bool, true, false, List, [], ◌∷◌, length, refl, ap}
use Rattle.bg_formula.specs.Atoms.{AtomOf, IsTruth, IsRow}
use Rattle.bg_formula.specs.Formulas.{atom_below, rows_below}
use Rattle.bg_formula.specs.Meaning.{AtomsAgree}
use Rattle.bg_formed.specs.Formed.{FormBlock}
use Rattle.bg_formed.specs.Agree.{AreRows}
use Rattle.bg_formed.proofs.Below.{and_left, and_right, and_both}
use Rattle.bg_slice.specs.Slices.{row_if, names_blocks, sliced_rows}

module _ (bs : List FormBlock) where
  pub rows_left : (n : ℕ) (rows : List AtomOf) → AreRows rows → AreRows (sliced_rows n bs rows)
  rows_left n [] h = tt
  rows_left n (IsTruth x ∷ rows) h = absurd h
  rows_left n (IsRow r d ∷ rows) h = on (names_blocks n bs) (rows_left (suc n) rows h)
    where
      on : (z : Bool) → AreRows (sliced_rows (suc n) bs rows) → AreRows (row_if z (IsRow r d) ∷ sliced_rows (suc n) bs rows)
      on true k = k
      on false k = k

  pub agree_left : (n : ℕ) (rows : List AtomOf) → AtomsAgree rows → AtomsAgree (sliced_rows n bs rows)
  agree_left n [] h = tt
  agree_left n (IsTruth x ∷ rows) h = on (names_blocks n bs) (agree_left (suc n) rows h)
    where
      on : (z : Bool) → AtomsAgree (sliced_rows (suc n) bs rows) → AtomsAgree (row_if z (IsTruth x) ∷ sliced_rows (suc n) bs rows)
      on true k = k
      on false k = (refl, k)
  agree_left n (IsRow r d ∷ rows) h = on (names_blocks n bs) (agree_left (suc n) rows h.1)
    where
      on : (z : Bool) → AtomsAgree (sliced_rows (suc n) bs rows) → AtomsAgree (row_if z (IsRow r d) ∷ sliced_rows (suc n) bs rows)
      on true k = (h.0, k)
      on false k = (refl, k)

  atom_left : (k : ℕ) (z : Bool) (a : AtomOf) → atom_below k a ≡ true → atom_below k (row_if z a) ≡ true
  atom_left k true a h = h
  atom_left k false a h = refl

  pub below_left : (n k : ℕ) (rows : List AtomOf) → rows_below k rows ≡ true → rows_below k (sliced_rows n bs rows) ≡ true
  below_left n k [] h = refl
  below_left n k (a ∷ rows) h =
      and_both (atom_below k (row_if (names_blocks n bs) a)) _ (atom_left k (names_blocks n bs) a (and_left (atom_below k a) (rows_below k rows) h)) (below_left (suc n) k rows (and_right (atom_below k a) (rows_below k rows) h))

  pub count_left : (n : ℕ) (rows : List AtomOf) → length (sliced_rows n bs rows) ≡ length rows
  count_left n [] = refl
  count_left n (a ∷ rows) = ap suc (count_left (suc n) rows)
