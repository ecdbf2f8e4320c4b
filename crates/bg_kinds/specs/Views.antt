-- How the code's types and faults are read.
use Rattle.std.specs.Prelude.{List, [], ◌∷◌, map}
use Rattle.bg_ast.specs.Values as v
use Rattle.bg_kinds.specs.declared.kinds.IndexType.{IndexType}
use Rattle.bg_kinds.specs.declared.kinds.IndexType.TheVariants as key
use Rattle.bg_kinds.specs.declared.kinds.Base.{Base}
use Rattle.bg_kinds.specs.declared.kinds.Base.TheVariants as base
use Rattle.bg_kinds.specs.declared.kinds.Keys.{Keys}
use Rattle.bg_kinds.specs.declared.kinds.ValueType.{ValueType}
use Rattle.bg_kinds.specs.declared.kinds.TypeRef.{TypeRef}

abbrev pub key_of : IndexType → v.KeyType
key_of key.Int = v.IntKey
key_of (key.User t) = v.UserKey t

abbrev pub base_of : Base → v.Ty
base_of base.Int = v.IntTy
base_of base.Bool = v.BoolTy
base_of (base.User t) = v.UserTy t

abbrev pub keys_of : Keys → List v.KeyType
keys_of k = map key_of k.keys.items

-- a row of map brackets before a type
abbrev pub tower : List Keys → v.Ty → v.Ty
tower [] t = t
tower (k ∷ ks) t = v.MapTy (keys_of k) (tower ks t)

abbrev pub ref_in : ValueType → v.Ty
ref_in t = tower t.maps.items (base_of t.base)

abbrev pub ref_of : TypeRef → v.Ty
ref_of t = tower t.maps.now (base_of t.base)
