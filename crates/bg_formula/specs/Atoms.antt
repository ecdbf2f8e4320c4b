-- Atoms as data.
use Rattle.std.specs.Prelude.{ℕ, zero, suc, Bool, true, false, ◌==◌, ◌&&◌, List, [], ◌∷◌, Option, Some, None, Result, Ok}
use Rattle.std.specs.Ordering.{int_eq}
use Rattle.bg_base.specs.declared.exact.OutOfRange.{OutOfRange}
use Rattle.bg_rows.specs.declared.entry.Entry.{Entry}
use Rattle.bg_rows.specs.Rows.{RowOf, row_of, and_then, denied}
use Rattle.bg_formula.specs.declared.atom.Linear.{Linear}
use Rattle.bg_formula.specs.declared.atom.Atom.{Atom}
use Rattle.bg_formula.specs.declared.atom.Atom.TheVariants.{Truth, Holds}

-- an atom: a truth variable, or a row with its denial
pub data AtomOf : Type 0 where
  IsTruth : ℕ → AtomOf
  IsRow : (row denial : RowOf) → AtomOf

-- an atom of the code, as its meaning sees it
abbrev pub atom_of : Atom → AtomOf
atom_of (Truth x) = IsTruth x
atom_of (Holds a) = IsRow (row_of a.row) (row_of a.denial)

abbrev pub view_linear : Linear → AtomOf
view_linear a = IsRow (row_of a.row) (row_of a.denial)

-- the atom of a row, where its denial stays in range
abbrev pub row_and_denial : RowOf → Result AtomOf OutOfRange
row_and_denial r = and_then (denied r) (λ d. Ok (IsRow r d))

-- the thing at a place, if there is one
abbrev pub at : {A : Type 0} → List A → ℕ → Option A
at [] n = None
at (x ∷ xs) zero = Some x
at (x ∷ xs) (suc n) = at xs n

abbrev pub entries_eq : List Entry → List Entry → Bool
entries_eq [] [] = true
entries_eq (t ∷ ts) (u ∷ us) = t.variable == u.variable && (int_eq t.by u.by && entries_eq ts us)
entries_eq _ _ = false

abbrev pub row_eq : RowOf → RowOf → Bool
row_eq r s = entries_eq r.entries s.entries && int_eq r.bound s.bound

-- whether two atoms say the same
abbrev pub atom_eq : AtomOf → AtomOf → Bool
atom_eq (IsTruth x) (IsTruth y) = x == y
atom_eq (IsRow r d) (IsRow s e) = row_eq r s
atom_eq _ _ = false
