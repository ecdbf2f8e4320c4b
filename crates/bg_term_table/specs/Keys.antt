-- Terms with leaves as arguments as keys, and the place that a table of terms has for a key.
use Rattle.std.specs.Prelude.{◌≡◌, ℕ, suc, Bool, false, if◌then◌else◌, List, [], ◌∷◌, map, Option, Some, None, Vec, true, slice_get}
use Rattle.std.specs.Ordering.{ordering_then, is_eq}
use Rattle.std.specs.declared.cmp.Ordering.{Ordering}
use Rattle.std.specs.Cmp.Lexicographic.{slice_cmp}
use Rattle.std.specs.BTreeMap.{BTreeMap, get_by}
use Rattle.std.specs.declared.alloc.Global.{Global}
use Rattle.bg_ast.specs.Syntax.{Ex, Number, Fact, Read, Local}
use Rattle.bg_terms.specs.Terms.{Head, head_eq}
use Rattle.bg_term_table.specs.declared.leaf.Leaf.{Leaf}
use Rattle.bg_term_table.specs.declared.leaf.Leaf.TheVariants as leaf
use Rattle.bg_term_table.specs.contracts.leaf.LeafOrd.TheImpl.{ghosts}
use Rattle.bg_term_table.specs.declared.kind.Kind.{Kind}
use Rattle.bg_term_table.specs.declared.kind.Kind.TheVariants as kind
use Rattle.bg_term_table.specs.declared.table.Head as code
use Rattle.bg_term_table.specs.declared.table.Head.TheVariants as head
use Rattle.bg_term_table.specs.declared.table.Term as kept
use Rattle.bg_term_table.specs.Views.{head_of, meanings}
use Rattle.bg_term_table.specs.Kinds.{kind_cmp}

-- the leaf that an expression is
abbrev pub leaf_in : Ex → Option Leaf
leaf_in (Number z) = Some (leaf.Number z)
leaf_in (Fact b) = Some (leaf.Truth b)
leaf_in (Read (Local j)) = Some (leaf.Read j)
leaf_in _ = None

-- what stands beside a row is a leaf only where the row is empty
abbrev pub bare : {A : Type 0} → List A → Option Leaf → Option Leaf
bare [] l = l
bare (x ∷ xs) l = None

abbrev pub with_leaf : Option Leaf → Option (List Leaf) → Option (List Leaf)
with_leaf None ls = None
with_leaf (Some l) None = None
with_leaf (Some l) (Some ls) = Some (l ∷ ls)

-- the leaves that expressions are, if each is one
abbrev pub leaves_in : List Ex → Option (List Leaf)
leaves_in [] = Some []
leaves_in (e ∷ es) = with_leaf (leaf_in e) (leaves_in es)

abbrev pub leaves_of : Option (Vec Leaf Global) → Option (List Leaf)
leaves_of None = None
leaves_of (Some v) = Some v.items

-- what makes a term, but for the types of maps
abbrev pub kind_in : code.Head → Kind
kind_in (head.Function f) = kind.Function f
kind_in (head.Selects k t) = kind.Select
kind_in (head.Updates k t) = kind.Update
kind_in (head.Differs k t j) = kind.Part j

-- that, and leaves
abbrev pub KeyOf : Type 0
KeyOf = Kind × List Leaf

abbrev pub leaf_cmp : Leaf → Leaf → Ordering
leaf_cmp x y = ghosts.cmp x y

-- by the kind, then by the arguments
abbrev pub key_cmp : KeyOf → KeyOf → Ordering
key_cmp x y = ordering_then (kind_cmp x.0 y.0) (slice_cmp leaf_cmp x.1 y.1)

abbrev pub key_with : Kind → Option (List Leaf) → Option KeyOf
key_with q None = None
key_with q (Some ls) = Some (q, ls)

-- the key of a term, if its arguments are leaves
abbrev pub key_in : kept.Term → Option KeyOf
key_in t = key_with (kind_in t.head) (leaves_in (meanings t.args.items))

abbrev pub keys_of : List kept.Term → List (Option KeyOf)
keys_of ts = map key_in ts

abbrev pub is_key : KeyOf → Option KeyOf → Bool
is_key k None = false
is_key k (Some l) = is_eq (key_cmp k l)

-- the place of the first term with this key, where the first of these has place a
abbrev pub found_by : KeyOf → ℕ → List (Option KeyOf) → Option ℕ
found_by k a [] = None
found_by k a (o ∷ os) = if is_key k o then Some a else found_by k (suc a) os

-- what a map has at a key
abbrev pub known_at : BTreeMap (Kind × Vec Leaf Global) ℕ → KeyOf → Option ℕ
known_at m k = get_by (λ y. key_cmp k (y.0, y.1.items)) m

-- the map has the place of the first term with each key
abbrev pub IsKnown : BTreeMap (Kind × Vec Leaf Global) ℕ → List kept.Term → Type 0
IsKnown m ts = (k : Kind × Vec Leaf Global) → known_at m (k.0, k.1.items) ≡ found_by (k.0, k.1.items) 0 (keys_of ts)

-- the term at this place has this head
pub record HasHead (place : ℕ) (h : Head) (ts : List kept.Term) : Type 0 where
  pub term : kept.Term
  pub is_there : slice_get ts place ≡ Some term
  pub head : head_eq (head_of term.head) h ≡ true
