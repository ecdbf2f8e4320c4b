-- Rows behind others: those that aren't there yet, and where each one's atom is.
use Rattle.std.specs.Prelude.{ℕ, zero, suc, ◌+◌, true, if◌then◌else◌, List, [], ◌∷◌, ◌++◌, length, Option, Some, None}
use Rattle.bg_formula.specs.declared.atom.Literal.{Literal}
use Rattle.bg_formula.specs.Atoms.{AtomOf, IsTruth, IsRow}
use Rattle.bg_atoms.specs.Literals.{literal_of}
use Rattle.bg_atoms.specs.Listed.{is_there}

-- the rows that aren't among those in front, and of which no denial is
abbrev pub fresh : List AtomOf → List AtomOf → List AtomOf
fresh front [] = []
fresh front (IsTruth x ∷ rs) = fresh front rs
fresh front (IsRow r d ∷ rs) = if is_there r front then fresh front rs else IsRow r d ∷ fresh front rs

-- the atom with this number is true
abbrev pub itself : ℕ → Literal
itself a = record { atom = a; sign = true }

-- a literal in front of what is behind it, where the next fresh row is atom k
abbrev pub placed : Option Literal → ℕ → (ℕ → List Literal) → List Literal
placed (Some l) k rest = l ∷ rest k
placed None k rest = itself k ∷ rest (suc k)

-- the literal of each row, where those in front are the atoms from m on, and the fresh ones those from k on
abbrev pub places : ℕ → List AtomOf → List AtomOf → ℕ → List Literal
places m front [] k = []
places m front (IsTruth x ∷ rs) k = itself k ∷ places m front rs k
places m front (IsRow r d ∷ rs) k = placed (literal_of r m front) k (places m front rs)

-- n atoms from a on
abbrev pub stays : ℕ → ℕ → List Literal
stays a zero = []
stays a (suc n) = itself a ∷ stays (suc a) n

-- where atoms go: the first n stay, and rows behind them go to their literals, where those in front are the atoms from m on and the fresh
-- ones stand behind these
abbrev pub goes : ℕ → ℕ → List AtomOf → List AtomOf → List Literal
goes n m front rows = stays 0 n ++ places m front rows (m + length front)
