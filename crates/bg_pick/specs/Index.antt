-- Lists of the clauses in which each literal stands.
use Rattle.std.specs.Prelude.{◌≡◌, ℕ, ◌==◌, Bool, true, false, ◌&&◌, ◌||◌, List, [], ◌∷◌, map, slice_index_or, Option, Some, None, Vec}
use Rattle.std.specs.declared.alloc.Global.{Global}
use Rattle.bg_formula.specs.declared.atom.Literal.{Literal}
use Rattle.bg_formula.specs.Atoms.{at}
use Rattle.bg_formula.specs.Formulas.{Formula}
use Rattle.bg_formula.specs.Meaning.{same}
use Rattle.bg_cert.specs.Causes.{member_atom}
use Rattle.bg_pick.specs.declared.hint.Hint.{Hint}
use Rattle.bg_pick.specs.declared.hint.Hint.TheVariants.{Nth, Member}
use Rattle.bg_pick.specs.declared.index.Index.{Index}

abbrev pub unit_of : Option ℕ → Option (List Literal)
unit_of None = None
unit_of (Some a) = Some (record { atom = a; sign = true } ∷ [])

-- the clause that a hint names: one of the formula's, or the unit of a member of the set
abbrev pub clause_at : Formula → (ℕ → Bool) → Hint → Option (List Literal)
clause_at f set (Nth k) = at f.clauses k
clause_at f set (Member c) = unit_of (member_atom f set c)

-- whether a literal of this atom and sign stands in a clause
abbrev pub stands : ℕ → Bool → List Literal → Bool
stands a s [] = false
stands a s (l ∷ ls) = (l.atom == a && same l.sign s) || stands a s ls

-- the hint is in the list
abbrev pub Names : List Hint → Hint → Type 0
Names xs x = (k : ℕ) × (at xs k ≡ Some x)

abbrev pub hints_at : List (Vec Hint Global) → ℕ → List Hint
hints_at lists a = slice_index_or (map (λ v. v.items) lists) a []

-- the list of the clauses in which a literal stands
abbrev pub list_of : Index → ℕ → Bool → List Hint
list_of i a true = hints_at i.yes.items a
list_of i a false = hints_at i.no.items a

-- a clause is named, and so it is in the list of each of its literals
pub record Covers (i : Index) (x : Hint) (c : List Literal) : Type 0 where
  pub whole : Names i.start.items x
  pub each : (a : ℕ) (s : Bool) → stands a s c ≡ true → Names (list_of i a s) x

-- each clause and each unit is named wherever it belongs
abbrev pub IsIndex : Formula → (ℕ → Bool) → Index → Type 0
IsIndex f set i = (x : Hint) (c : List Literal) → clause_at f set x ≡ Some c → Covers i x c

-- nothing is taken out
pub record Grows (old new : Index) : Type 0 where
  pub start : (x : Hint) → Names old.start.items x → Names new.start.items x
  pub lists : (a : ℕ) (s : Bool) (x : Hint) → Names (list_of old a s) x → Names (list_of new a s) x
