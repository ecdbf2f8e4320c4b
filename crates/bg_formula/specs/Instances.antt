-- Instances of the forms that every interpretation's valuation makes true, and the clauses that they add.
use Rattle.std.specs.Prelude.{ℕ, zero, suc, Bool, true, false, not, ◌&&◌, ◌||◌, List, [], ◌∷◌, ◌++◌, if◌then◌else◌}
use Rattle.bg_formula.specs.declared.atom.Literal.{Literal}
use Rattle.bg_formula.specs.Atoms.{AtomOf, atom_eq}
use Rattle.bg_formula.specs.Meaning.{Valuation, atom_true, same}

-- a form with two terms. Which forms there are, and what they add, is a parameter of what speaks of them; an unknown form,
-- or a term that isn't there, adds nothing and is refused, so what is added is an option
pub record Instance : Type 0 where
  pub form : ℕ
  pub first : ℕ
  pub second : ℕ

-- a literal that carries its atom in the place of its number
pub record SignedAtom : Type 0 where
  pub atom : AtomOf
  pub sign : Bool

abbrev pub any_signed : Valuation → List SignedAtom → Bool
any_signed v [] = false
any_signed v (l ∷ ls) = same (atom_true v l.atom) l.sign || any_signed v ls

abbrev pub added_true : Valuation → List (List SignedAtom) → Bool
added_true v [] = true
added_true v (c ∷ cs) = any_signed v c && added_true v cs

-- the atoms of an instance's literals
abbrev pub atoms_in : List SignedAtom → List AtomOf
atoms_in [] = []
atoms_in (l ∷ ls) = l.atom ∷ atoms_in ls

abbrev pub atoms_of : List (List SignedAtom) → List AtomOf
atoms_of [] = []
atoms_of (c ∷ cs) = atoms_in c ++ atoms_of cs

-- an atom's number: that of the first one that says the same, else the next one, behind those that are there
abbrev pub number_of : List AtomOf → AtomOf → ℕ
number_of [] a = zero
number_of (x ∷ xs) a = if atom_eq x a then zero else suc (number_of xs a)

abbrev pub with_atom : List AtomOf → AtomOf → List AtomOf
with_atom [] a = a ∷ []
with_atom (x ∷ xs) a = if atom_eq x a then x ∷ xs else x ∷ with_atom xs a

abbrev pub with_clause : List AtomOf → List SignedAtom → List AtomOf
with_clause xs [] = xs
with_clause xs (l ∷ ls) = with_clause (with_atom xs l.atom) ls

abbrev pub with_clauses : List AtomOf → List (List SignedAtom) → List AtomOf
with_clauses xs [] = xs
with_clauses xs (c ∷ cs) = with_clauses (with_clause xs c) cs

abbrev pub numbered_clause : List AtomOf → List SignedAtom → List Literal
numbered_clause xs [] = []
numbered_clause xs (l ∷ ls) =
    record { atom = number_of xs l.atom; sign = l.sign } ∷ numbered_clause (with_atom xs l.atom) ls

abbrev pub numbered : List AtomOf → List (List SignedAtom) → List (List Literal)
numbered xs [] = []
numbered xs (c ∷ cs) = numbered_clause xs c ∷ numbered (with_clause xs c) cs

-- no atom says the same as an earlier one
abbrev pub none_like : AtomOf → List AtomOf → Bool
none_like x [] = true
none_like x (y ∷ ys) = not (atom_eq x y) && none_like x ys

abbrev pub atoms_differ : List AtomOf → Bool
atoms_differ [] = true
atoms_differ (x ∷ xs) = none_like x xs && atoms_differ xs
