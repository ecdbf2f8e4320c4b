-- Tables of rows, in which a literal is found by a row's key.
use Rattle.std.specs.Prelude.{◌≡◌, ℕ, suc, ℤ, Bool, true, false, ◌==◌, ◌&&◌, if◌then◌else◌, List, [], ◌∷◌, Option, Some, None, Vec}
use Rattle.std.specs.Ordering.{is_eq, int_eq}
use Rattle.std.specs.Cmp.Lexicographic.{pointwise}
use Rattle.std.specs.HashMap.{HashMap, get_by}
use Rattle.std.specs.declared.alloc.Global.{Global}
use Rattle.bg_rows.specs.Keys.{KeyOf, key_cmp, key_of}
use Rattle.bg_formula.specs.declared.atom.Literal.{Literal}
use Rattle.bg_formula.specs.Atoms.{AtomOf, IsTruth, IsRow}
use Rattle.bg_atoms.specs.declared.table.Table.{Table}
use Rattle.bg_atoms.specs.Made.{rows_in}

-- the literal of the first row with this key, or of which the denial has it, where rows are the atoms from n on
abbrev pub literal_by : KeyOf → ℕ → List AtomOf → Option Literal
literal_by k n [] = None
literal_by k n (IsTruth x ∷ rs) = literal_by k (suc n) rs
literal_by k n (IsRow a d ∷ rs) =
    if is_eq (key_cmp k (key_of a)) then Some (record { atom = n; sign = true })
    else if is_eq (key_cmp k (key_of d)) then Some (record { atom = n; sign = false })
    else literal_by k (suc n) rs

-- whether keys are equal
abbrev pub key_eq : KeyOf → KeyOf → Bool
key_eq x y = pointwise (λ p q. (p.0 == q.0) && int_eq p.1 q.1) x.0 y.0 && int_eq x.1 y.1

-- what a map has at a key
abbrev pub known_at : {S : Type 0} → HashMap (Vec (ℕ × ℤ) Global × ℤ) Literal S → KeyOf → Option Literal
known_at m k = get_by (λ y. key_eq k (y.0.items, y.1)) m

abbrev pub or_else : Option Literal → Option Literal → Option Literal
or_else None l = l
or_else (Some k) l = Some k

-- a literal for this key alone
abbrev pub only_at : KeyOf → Literal → KeyOf → Option Literal
only_at k l q = if is_eq (key_cmp q k) then Some l else None

-- a literal was put in at a key, unless one was there
abbrev pub IsPut : {S : Type 0} → KeyOf → Literal → HashMap (Vec (ℕ × ℤ) Global × ℤ) Literal S → HashMap (Vec (ℕ × ℤ) Global × ℤ) Literal S → Type 0
IsPut k l m n = (q : Vec (ℕ × ℤ) Global × ℤ) → known_at n (q.0.items, q.1) ≡ or_else (known_at m (q.0.items, q.1)) (only_at k l (q.0.items, q.1))

-- rows are found by their keys, and by those of their denials
pub record IsTable (base : ℕ) (t : Table) : Type 0 where
  pub indexed : (k : Vec (ℕ × ℤ) Global × ℤ) → known_at t.known (k.0.items, k.1) ≡ literal_by (k.0.items, k.1) base (rows_in t.rows)
