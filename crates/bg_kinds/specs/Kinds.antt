-- What written types stand for; faulty ones stand for none.
use Rattle.std.specs.Prelude.{ℕ, zero, suc, List, [], ◌∷◌, ◌++◌, length, Option, Some, None, slice_get}
use Rattle.bg_base.specs.declared.pos.Pos.{Pos}
use Rattle.bg_ast.specs.Values as v
use Rattle.bg_ast.specs.Resolved as r
use Rattle.bg_kinds.specs.Faults.{Fault, MapIndex}

-- a type, where it has one
abbrev pub Kind : Type 0
Kind = Option v.Ty

-- an index type: `int`, or a user type
abbrev pub key_in : Kind → Option v.KeyType
key_in (Some v.IntTy) = Some v.IntKey
key_in (Some (v.UserTy t)) = Some (v.UserKey t)
key_in _ = None

-- one more in front, where both are there
abbrev pub one_key : {A : Type 0} → Option A → Option (List A) → Option (List A)
one_key (Some k) (Some ks) = Some (k ∷ ks)
one_key _ _ = None

abbrev pub map_kind : Option (List v.KeyType) → Kind → Kind
map_kind (Some ks) (Some t) = Some (v.MapTy ks t)
map_kind _ _ = None

abbrev mutual
  -- what a written type stands for, where each declared one stands for what the first argument says
  pub kind_in : (ℕ → Kind) → r.Ty → Kind
  kind_in named (r.IntType p) = Some v.IntTy
  kind_in named (r.BoolType p) = Some v.BoolTy
  kind_in named (r.DeclaredType p k) = named k
  kind_in named (r.InParens p t) = kind_in named t
  kind_in named (r.MapType is t) = mapped_in named is (kind_in named t)

  pub mapped_in : (ℕ → Kind) → r.Indices → Kind → Kind
  mapped_in named r.NoIndex t = t
  mapped_in named (r.Index p ts is) t = map_kind (keys_in named ts) (mapped_in named is t)

  pub keys_in : (ℕ → Kind) → r.Tys → Option (List v.KeyType)
  keys_in named r.NoType = Some []
  keys_in named (r.OneType t ts) = one_key (key_in (kind_in named t)) (keys_in named ts)

abbrev mutual
  -- where a type begins
  pub start_of : r.Ty → Pos
  start_of (r.IntType p) = p
  start_of (r.BoolType p) = p
  start_of (r.DeclaredType p k) = p
  start_of (r.InParens p t) = p
  start_of (r.MapType is t) = start_in is (start_of t)

  pub start_in : r.Indices → Pos → Pos
  start_in r.NoIndex p = p
  start_in (r.Index q ts is) p = q

-- an index type that is no index type
abbrev pub index_fault : Pos → Kind → List Fault
index_fault p (Some v.BoolTy) = MapIndex p ∷ []
index_fault p (Some (v.MapTy ks t)) = MapIndex p ∷ []
index_fault p _ = []

abbrev mutual
  -- the faults of a written type
  pub type_faults : (ℕ → Kind) → r.Ty → List Fault
  type_faults named (r.InParens p t) = type_faults named t
  type_faults named (r.MapType is t) = indices_faults named is ++ type_faults named t
  type_faults named _ = []

  pub indices_faults : (ℕ → Kind) → r.Indices → List Fault
  indices_faults named r.NoIndex = []
  indices_faults named (r.Index p ts is) = types_faults named ts ++ indices_faults named is

  pub types_faults : (ℕ → Kind) → r.Tys → List Fault
  types_faults named r.NoType = []
  types_faults named (r.OneType t ts) =
      type_faults named t ++ (index_fault (start_of t) (kind_in named t) ++ types_faults named ts)

abbrev pub synonym_by : Kind → (r.Ty → Kind) → Option r.Ty → Kind
synonym_by other read None = other
synonym_by other read (Some t) = read t

abbrev pub synonym_or : Kind → (r.Ty → Kind) → Option r.TypeName → Kind
synonym_or other read None = other
synonym_or other read (Some d) = synonym_by other read d.synonym

-- what a declared type stands for, with synonyms unfolded at most so often
abbrev pub named_within : ℕ → List r.TypeName → ℕ → Kind
named_within zero ds k = Some (v.UserTy k)
named_within (suc n) ds k = synonym_or (Some (v.UserTy k)) (kind_in (named_within n ds)) (slice_get ds k)

-- as often as there are types, and once more, which is deep enough where no synonym reaches itself
abbrev pub named_of : List r.TypeName → ℕ → Kind
named_of ds = named_within (suc (length ds)) ds

-- what a table says of declared types; another stands for itself
abbrev pub or_user : ℕ → Option Kind → Kind
or_user k None = Some (v.UserTy k)
or_user k (Some t) = t

abbrev pub named_by : List Kind → ℕ → Kind
named_by ts k = or_user k (slice_get ts k)
