-- Formulas as data.
use Rattle.std.specs.Prelude.{ℕ, nat_lt, Bool, true, ◌&&◌, List, [], ◌∷◌, map, length, Option, Some, None}
use Rattle.bg_formula.specs.declared.atom.Literal.{Literal}
use Rattle.bg_formula.specs.declared.clauses.Clauses.{Clauses}
use Rattle.bg_rows.specs.declared.entry.Entry.{Entry}
use Rattle.bg_formula.specs.Atoms.{AtomOf, IsTruth, IsRow, atom_of, at}

-- clauses over numbered atoms, and how many terms there are. A candidate has its atom, or none
pub record Formula : Type 0 where
  pub terms : ℕ
  pub atoms : List AtomOf
  pub clauses : List (List Literal)
  pub candidates : List (Option ℕ)

-- a formula of the code, as its meaning sees it
abbrev pub formula_of : Clauses → Formula
formula_of f =
    record {
      terms = f.terms;
      atoms = map atom_of f.atoms.items;
      clauses = map (λ c. c.items) f.clauses.items;
      candidates = f.candidates.items;
    }

-- each literal's atom is one of the first n
abbrev pub literals_below : ℕ → List Literal → Bool
literals_below n [] = true
literals_below n (l ∷ ls) = nat_lt l.atom n && literals_below n ls

abbrev pub clauses_below : ℕ → List (List Literal) → Bool
clauses_below n [] = true
clauses_below n (c ∷ cs) = literals_below n c && clauses_below n cs

abbrev pub joined : Option (Option ℕ) → Option ℕ
joined None = None
joined (Some a) = a

-- the atom of a candidate, if it has one
abbrev pub unit_atom : Formula → ℕ → Option ℕ
unit_atom f c = joined (at f.candidates c)

-- each candidate's atom, if it has one, is one of the first n
abbrev pub units_below : ℕ → List (Option ℕ) → Bool
units_below n [] = true
units_below n (None ∷ cs) = units_below n cs
units_below n (Some a ∷ cs) = nat_lt a n && units_below n cs

-- each entry's term is one of the first n
abbrev pub entries_below : ℕ → List Entry → Bool
entries_below n [] = true
entries_below n (t ∷ ts) = nat_lt t.variable n && entries_below n ts

-- each term of an atom's row is one of the first n
abbrev pub atom_below : ℕ → AtomOf → Bool
atom_below n (IsTruth x) = true
atom_below n (IsRow r d) = entries_below n r.entries

abbrev pub rows_below : ℕ → List AtomOf → Bool
rows_below n [] = true
rows_below n (a ∷ atoms) = atom_below n a && rows_below n atoms

-- whatever names an atom or a term names one that is there
abbrev pub is_whole : Formula → Bool
is_whole f =
    clauses_below (length f.atoms) f.clauses && (units_below (length f.atoms) f.candidates && rows_below f.terms f.atoms)
