-- Marks of atoms, or of candidates, from one number on.
use Rattle.std.specs.Prelude.{ℕ, suc, Bool, ◌||◌, List, [], ◌∷◌}
use Rattle.bg_formula.specs.Atoms.{AtomOf}
use Rattle.bg_slice.specs.Slices.{row_if, no_row}

-- the marks of those from number n on, beside which those with a property are marked
abbrev pub marked : (ℕ → Bool) → ℕ → List Bool → List Bool
marked p n [] = []
marked p n (m ∷ ms) = (m || p n) ∷ marked p (suc n) ms

-- rows by their marks; where there is no mark there is no row
abbrev pub marked_rows : List Bool → List AtomOf → List AtomOf
marked_rows ms [] = []
marked_rows [] (a ∷ rows) = no_row ∷ marked_rows [] rows
marked_rows (m ∷ ms) (a ∷ rows) = row_if m a ∷ marked_rows ms rows
