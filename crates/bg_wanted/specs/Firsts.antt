-- The first of the rows of one class and the same arguments.
use Rattle.std.specs.Prelude.{◌≡◌, ℕ, suc, false, if◌then◌else◌, List, [], ◌∷◌, Option, None, Some, Vec, slice_get}
use Rattle.std.specs.Ordering.{ordering_then, is_eq}
use Rattle.std.specs.declared.cmp.Ordering.{Ordering}
use Rattle.std.specs.Cmp.Lexicographic.{slice_cmp}
use Rattle.std.specs.BTreeMap.{BTreeMap, get_by}
use Rattle.std.specs.declared.alloc.Global.{Global}
use Rattle.bg_ast.specs.Values.{val_eq}
use Rattle.bg_term_table.specs.declared.line.Line.{Line}
use Rattle.bg_term_table.specs.declared.line.Line.TheVariants.{Congruent}
use Rattle.bg_scalar.specs.declared.scalar.Scalar.{Scalar}
use Rattle.bg_scalar.specs.contracts.scalar.ScalarOrd.TheImpl.{ghosts}
use Rattle.bg_scalar.specs.Values.{val_of}
use Rattle.bg_wanted.specs.declared.class.Class.{Class}
use Rattle.bg_wanted.specs.contracts.class.ClassOrd.TheImpl as classes
use Rattle.bg_wanted.specs.Wanting.{Each}
use Rattle.bg_wanted.specs.Rows.{RowOf}

-- a class, and arguments
abbrev pub KeyOf : Type 0
KeyOf = Class × List Scalar

abbrev pub class_cmp : Class → Class → Ordering
class_cmp x y = classes.ghosts.cmp x y

abbrev pub scalar_cmp : Scalar → Scalar → Ordering
scalar_cmp x y = ghosts.cmp x y

abbrev pub args_cmp : List Scalar → List Scalar → Ordering
args_cmp xs ys = slice_cmp scalar_cmp xs ys

-- by the class, then by the arguments
abbrev pub key_cmp : KeyOf → KeyOf → Ordering
key_cmp k l = ordering_then (class_cmp k.0 l.0) (args_cmp k.1 l.1)

abbrev pub key_of : RowOf → KeyOf
key_of r = (r.class, r.args)

-- the place and the value of the first row with this key, where the first of these has place a
abbrev pub first_row : KeyOf → ℕ → List RowOf → Option (ℕ × Scalar)
first_row k a [] = None
first_row k a (r ∷ rs) = if is_eq (key_cmp k (key_of r)) then Some (a, r.value) else first_row k (suc a) rs

-- what a map has at a key
abbrev pub first_at : BTreeMap (Class × Vec Scalar Global) (ℕ × Scalar) → KeyOf → Option (ℕ × Scalar)
first_at m k = get_by (λ y. key_cmp k (y.0, y.1.items)) m

-- the map has the first row with each key
abbrev pub HasFirsts : BTreeMap (Class × Vec Scalar Global) (ℕ × Scalar) → List RowOf → Type 0
HasFirsts m rs = (k : Class × Vec Scalar Global) → first_at m (k.0, k.1.items) ≡ first_row (k.0, k.1.items) 0 rs

-- rows with one key have one value
abbrev pub Agreeing : List RowOf → Type 0
Agreeing rs =
    (a b : ℕ) (r q : RowOf) → slice_get rs a ≡ Some r → slice_get rs b ≡ Some q → key_of r ≡ key_of q → r.value ≡ q.value

-- the values of two rows with one key differ
pub record IsApart (rs : List RowOf) (e : Line) : Type 0 where
  pub a : ℕ
  pub b : ℕ
  pub r : RowOf
  pub q : RowOf
  pub is : e ≡ Congruent a b
  pub first : slice_get rs a ≡ Some r
  pub other : slice_get rs b ≡ Some q
  pub key : key_of r ≡ key_of q
  pub differ : val_eq (val_of r.value) (val_of q.value) ≡ false

-- these tell what is apart, and nothing is where there are none
abbrev pub AreApart : List RowOf → List Line → Type 0
AreApart rs es = Each (IsApart rs) es × (es ≡ [] → Agreeing rs)

-- so it is of the rows so far
abbrev pub IsSoFar : BTreeMap (Class × Vec Scalar Global) (ℕ × Scalar) → List Line → List RowOf → Type 0
IsSoFar m es rs = HasFirsts m rs × AreApart rs es
