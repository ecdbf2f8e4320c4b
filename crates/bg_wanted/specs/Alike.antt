-- Maps of one type with different numbers and one table.
use Rattle.std.specs.Prelude.{◌≡◌, ◌⊎◌, ℕ, suc, ◌<◌, if◌then◌else◌, nat_lt, Bool, true, false, ◌&&◌, List, [], ◌∷◌, ◌++◌, length, map, Option, Some, None, slice_get}
use Rattle.std.specs.Ordering.{is_eq}
use Rattle.std.specs.declared.cmp.Ordering.{Ordering}
use Rattle.std.specs.BTreeMap.{BTreeMap, get_by}
use Rattle.std.specs.BTreeSet.{BTreeSet, contains_by}
use Rattle.bg_ast.specs.Values.{Val, Ty, MapTy, KeyType, val_eq}
use Rattle.bg_sense.specs.Eval.{value_at}
use Rattle.bg_sense.specs.Types.{key_types_eq, ty_eq}
use Rattle.bg_terms.specs.Terms.{Term}
use Rattle.bg_terms.specs.Built.{built}
use Rattle.bg_kinds.specs.Views.{keys_of, ref_of}
use Rattle.bg_scalar.specs.declared.scalar.Scalar.{Scalar}
use Rattle.bg_scalar.specs.contracts.value.ValueOrd.TheImpl as order
use Rattle.bg_scalar.specs.declared.value.Value.{Value}
use Rattle.bg_scalar.specs.Values.{val_of, value_of}
use Rattle.bg_wanted.specs.declared.names.Pair.{Pair}
use Rattle.bg_wanted.specs.declared.names.Group.{Group}
use Rattle.bg_wanted.specs.Firsts.{scalar_cmp}

abbrev pub map_type_in : Ty → Option (List KeyType × Ty)
map_type_in (MapTy ks t) = Some (ks, t)
map_type_in _ = None

-- maps of one type, whose index has so many parts
pub record AreOfOne (tys : List Ty) (a b parts : ℕ) : Type 0 where
  pub keys : List KeyType
  pub gives : Ty
  pub first : slice_get tys a ≡ Some (MapTy keys gives)
  pub second : slice_get tys b ≡ Some (MapTy keys gives)
  pub its_parts : parts ≡ length keys

module _ (s : List Val) (n : ℕ) (ts : List Term) (tys : List Ty) where
  -- maps of one type with different numbers are built different
  abbrev pub AreApart : Type 0
  AreApart =
      (j k : ℕ) (ks : List KeyType) (t : Ty) → slice_get tys j ≡ Some (MapTy ks t) → slice_get tys k ≡ Some (MapTy ks t) →
      val_eq (value_at s j) (value_at s k) ≡ false → val_eq (built s n ts (MapTy ks t) (value_at s j)) (built s n ts (MapTy ks t) (value_at s k)) ≡ false

  -- two are not
  pub record IsAlike (p : Pair) : Type 0 where
    pub keys : List KeyType
    pub gives : Ty
    pub first : slice_get tys p.first ≡ Some (MapTy keys gives)
    pub second : slice_get tys p.second ≡ Some (MapTy keys gives)
    pub parts : p.parts ≡ length keys
    pub differ : val_eq (value_at s p.first) (value_at s p.second) ≡ false
    pub alike : val_eq (built s n ts (MapTy keys gives) (value_at s p.first)) (built s n ts (MapTy keys gives) (value_at s p.second)) ≡ true

-- the one of two pairs whose maps give what has fewer brackets
abbrev pub inner_of : Option Pair → Option Pair → Option Pair
inner_of None found = found
inner_of (Some p) None = Some p
inner_of (Some p) (Some q) = if nat_lt q.within p.within then Some q else Some p

-- ---- maps by their types

-- whether a group is of maps of this type
abbrev pub is_group : Group → List KeyType → Ty → Bool
is_group g ks t = key_types_eq (keys_of g.keys.now) ks && ty_eq (ref_of g.gives) t

abbrev pub NoGroup : List Group → List KeyType → Ty → Type 0
NoGroup gs ks t = (i : ℕ) (g : Group) → slice_get gs i ≡ Some g → is_group g ks t ≡ false

abbrev pub IsGroupAt : List Group → ℕ → List KeyType → Ty → Type 0
IsGroupAt gs i ks t = (g : Group) × ((slice_get gs i ≡ Some g) × (is_group g ks t ≡ true))

abbrev pub IsIn : ℕ → List ℕ → Type 0
IsIn a xs = (i : ℕ) × (slice_get xs i ≡ Some a)

abbrev pub has_scalar : BTreeSet Scalar → Scalar → Bool
has_scalar m x = contains_by (scalar_cmp x) m

-- so many values differ
abbrev pub AreDistinct : List Val → List ℕ → Type 0
AreDistinct s js =
    (i k a b : ℕ) → slice_get js i ≡ Some a → slice_get js k ≡ Some b → (i ≡ k → ⊥) → val_eq (value_at s a) (value_at s b) ≡ false

-- these scalars are those of the maps with these numbers, which differ
pub record AreHeld (s : List Val) (m : BTreeSet Scalar) (js : List ℕ) : Type 0 where
  pub found : (x : Scalar) → has_scalar m x ≡ true → (j : ℕ) × (IsIn j js × (value_at s j ≡ val_of x))
  pub kept : (j : ℕ) → IsIn j js → (x : Scalar) × ((value_at s j ≡ val_of x) × (has_scalar m x ≡ true))
  pub distinct : AreDistinct s js

abbrev pub IsGroup : List Val → Group → Type 0
IsGroup s g = AreHeld s g.scalars g.numbers.items

-- one of the maps of a group has the scalar of this one
abbrev pub Covers : List Val → Group → ℕ → Type 0
Covers s g j = (i : ℕ) × (IsIn i g.numbers.items × (value_at s i ≡ value_at s j))

-- the same numbers, or with this one more
abbrev pub AreMore : List ℕ → ℕ → List ℕ → Type 0
AreMore js j ks = (ks ≡ js) ⊎ (ks ≡ js ++ j ∷ [])

-- the maps of groups are of their types, and there is one group for a type
pub record AreGroups (s : List Val) (tys : List Ty) (gs : List Group) : Type 0 where
  pub each : (i : ℕ) (g : Group) → slice_get gs i ≡ Some g → IsGroup s g
  pub typed :
      (i : ℕ) (g : Group) (j : ℕ) → slice_get gs i ≡ Some g → IsIn j g.numbers.items → slice_get tys j ≡ Some (MapTy (keys_of g.keys.now) (ref_of g.gives))
  pub one :
      (i k : ℕ) (g h : Group) (ks : List KeyType) (t : Ty) → slice_get gs i ≡ Some g → slice_get gs k ≡ Some h → is_group g ks t ≡ true → is_group h ks t ≡ true → i ≡ k

-- a map of this type is in the group of its type, or one with its scalar is
abbrev pub Covered : List Val → List Group → ℕ → List KeyType → Ty → Type 0
Covered s gs j ks t =
    (i : ℕ) × ((g : Group) × ((slice_get gs i ≡ Some g) × ((is_group g ks t ≡ true) × Covers s g j)))

-- groups with a map of this type more
pub record AreGrown (s : List Val) (tys : List Ty) (old now : List Group) (j : ℕ) (ks : List KeyType) (t : Ty) : Type 0 where
  pub groups : AreGroups s tys now
  pub covered : Covered s now j ks t
  pub still : (k : ℕ) (ls : List KeyType) (u : Ty) → Covered s old k ls u → Covered s now k ls u

-- groups with one more, if it is a map
pub record AreKept (s : List Val) (tys : List Ty) (old now : List Group) (j : ℕ) : Type 0 where
  pub groups : AreGroups s tys now
  pub covered : (ks : List KeyType) (t : Ty) → slice_get tys j ≡ Some (MapTy ks t) → Covered s now j ks t
  pub still : (k : ℕ) (ls : List KeyType) (u : Ty) → Covered s old k ls u → Covered s now k ls u

-- groups of the first so many
pub record AreAllGroups (s : List Val) (tys : List Ty) (gs : List Group) (n : ℕ) : Type 0 where
  pub groups : AreGroups s tys gs
  pub covered : (j : ℕ) (ks : List KeyType) (t : Ty) → j < n → slice_get tys j ≡ Some (MapTy ks t) → Covered s gs j ks t

-- ---- tables

abbrev pub tables_of : List Val → ℕ → List Term → Group → List Val
tables_of s n ts g = map (λ j. built s n ts (MapTy (keys_of g.keys.now) (ref_of g.gives)) (value_at s j)) g.numbers.items

abbrev pub same_there : Option Value → Option Value → Bool
same_there (Some x) (Some y) = val_eq (value_of x) (value_of y)
same_there _ _ = false

abbrev pub are_same_at : List Value → (j k : ℕ) → Bool
are_same_at xs j k = same_there (slice_get xs j) (slice_get xs k)

-- no two of these tables are the same
abbrev pub AllApart : List Value → Type 0
AllApart xs = (j k : ℕ) → j < k → k < length xs → are_same_at xs j k ≡ false

-- the order by which tables are found
abbrev pub table_cmp : Value → Value → Ordering
table_cmp x y = (order.ghosts).cmp x y

-- the place that is kept for a table
abbrev pub place_for : BTreeMap Value ℕ → Value → Option ℕ
place_for m x = get_by (λ y. table_cmp x y) m

-- the place of the first of these tables that is the same as one, where the first of these has place a
abbrev pub first_same : Value → ℕ → List Value → Option ℕ
first_same x a [] = None
first_same x a (t ∷ ts) = if is_eq (table_cmp x t) then Some a else first_same x (suc a) ts

-- the tables of a group differ
abbrev pub GroupApart : List Val → ℕ → List Term → Group → Type 0
GroupApart s n ts g =
    (i j a b : ℕ) → slice_get g.numbers.items i ≡ Some a → slice_get g.numbers.items j ≡ Some b → (i ≡ j → ⊥) →
    val_eq (built s n ts (MapTy (keys_of g.keys.now) (ref_of g.gives)) (value_at s a)) (built s n ts (MapTy (keys_of g.keys.now) (ref_of g.gives)) (value_at s b)) ≡ false

-- two maps of a group have one table
pub record IsPairIn (s : List Val) (n : ℕ) (ts : List Term) (g : Group) (p : Pair) : Type 0 where
  pub i : ℕ
  pub k : ℕ
  pub first : slice_get g.numbers.items i ≡ Some p.first
  pub second : slice_get g.numbers.items k ≡ Some p.second
  pub off : i ≡ k → ⊥
  pub parts : p.parts ≡ length (keys_of g.keys.now)
  pub alike : val_eq (built s n ts (MapTy (keys_of g.keys.now) (ref_of g.gives)) (value_at s p.first)) (built s n ts (MapTy (keys_of g.keys.now) (ref_of g.gives)) (value_at s p.second)) ≡ true
