-- Atoms of candidates: those that are marked have one each, in order.
use Rattle.std.specs.Prelude.{ℕ, zero, suc, Bool, true, false, List, [], ◌∷◌, Option, Some, None}
use Rattle.bg_formula.specs.Atoms.{at}
use Rattle.bg_formula.specs.Formulas.{joined}

-- for each candidate its atom, if it is marked; the first one's is atom k
abbrev pub table : ℕ → List Bool → List (Option ℕ)
table k [] = []
table k (true ∷ ms) = Some k ∷ table (suc k) ms
table k (false ∷ ms) = None ∷ table k ms

-- how many are marked
abbrev pub marked : List Bool → ℕ
marked [] = zero
marked (true ∷ ms) = suc (marked ms)
marked (false ∷ ms) = marked ms

-- a candidate's atom, if it has one
abbrev pub atom_in : List (Option ℕ) → ℕ → Option ℕ
atom_in cs b = joined (at cs b)

abbrev pub is_true_at : (ℕ → Bool) → Option ℕ → Bool
is_true_at t None = false
is_true_at t (Some a) = t a

-- whether a candidate is there under truth values of the atoms: its atom is true; one without an atom isn't there
abbrev pub there_in : List (Option ℕ) → (ℕ → Bool) → ℕ → Bool
there_in cs t b = is_true_at t (atom_in cs b)
