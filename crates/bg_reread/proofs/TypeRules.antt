-- Types, attributes and groups of names are ones of the grammar where they are without their positions.
use Rattle.std.proofs.Common.{◌≡◌, ◌≢◌, List, map, false, refl}
use Rattle.bg_text.specs.Trees.{Ty, IntType, BoolType, NamedType, InParens, MapType, Tys, NoType, OneType, Indices, NoIndex, Index, Arg, Formula, Quoted, Attr, Group}
use Rattle.bg_text.specs.Types.{All, is_map, IsType, AreIndices, AreTypes, IsArg, IsAttr, IsGroup}
use Rattle.bg_reread.specs.Bare.{bare_id, bare_type, bare_types, bare_indices, bare_arg, bare_attr, bare_group}
use Rattle.bg_reread.proofs.Same.{Same, itself, both, three, four, same_at, some_same, all_same}
use Rattle.bg_reread.proofs.ExRules.{ex_same}

map_is : (t : Ty) → is_map (bare_type t) ≡ is_map t
map_is (IntType p) = refl
map_is (BoolType p) = refl
map_is (NamedType p x) = refl
map_is (InParens p t) = refl
map_is (MapType is t) = refl

some_types : (ts : Tys) → Same (bare_types ts ≢ NoType) (ts ≢ NoType)
some_types NoType = itself (NoType ≢ NoType)
some_types (OneType t ts) = record { there = λ h. λ c. cc; back = λ h. λ c. cc }

some_indices : (is : Indices) → Same (bare_indices is ≢ NoIndex) (is ≢ NoIndex)
some_indices NoIndex = itself (NoIndex ≢ NoIndex)
some_indices (Index p ts is) = record { there = λ h. λ c. cc; back = λ h. λ c. cc }

mutual
  pub type_same : (t : Ty) → Same (IsType (bare_type t)) (IsType t)
  type_same (IntType p) = itself (Unit {0})
  type_same (BoolType p) = itself (Unit {0})
  type_same (NamedType p x) = itself (Unit {0})
  type_same (InParens p t) = type_same t
  type_same (MapType is t) = four (some_indices is) (indices_same is) (type_same t) (same_at (λ b. b ≡ false) (is_map (bare_type t)) (is_map t) (map_is t))

  indices_same : (is : Indices) → Same (AreIndices (bare_indices is)) (AreIndices is)
  indices_same NoIndex = itself (Unit {0})
  indices_same (Index p ts is) = three (some_types ts) (types_same ts) (indices_same is)

  types_same : (ts : Tys) → Same (AreTypes (bare_types ts)) (AreTypes ts)
  types_same NoType = itself (Unit {0})
  types_same (OneType t ts) = both (type_same t) (types_same ts)

arg_same : (a : Arg) → Same (IsArg (bare_arg a)) (IsArg a)
arg_same (Formula e) = ex_same e
arg_same (Quoted q) = itself (Unit {0})

attr_same : (a : Attr) → Same (IsAttr (bare_attr a)) (IsAttr a)
attr_same a = all_same IsArg bare_arg arg_same a.args

pub attrs_same : (xs : List Attr) → Same (All IsAttr (map bare_attr xs)) (All IsAttr xs)
attrs_same xs = all_same IsAttr bare_attr attr_same xs

pub group_same : (g : Group) → Same (IsGroup (bare_group g)) (IsGroup g)
group_same g = three (attrs_same g.attrs) (some_same bare_id g.names) (type_same g.ty)

pub groups_same : (gs : List Group) → Same (All IsGroup (map bare_group gs)) (All IsGroup gs)
groups_same gs = all_same IsGroup bare_group group_same gs
