-- Index types and brackets, as the code gathers them.
use Rattle.std.specs.Prelude.{List, [], ◌∷◌, ◌++◌, map, Option, Some, None, Vec}
use Rattle.std.specs.declared.alloc.Global.{Global}
use Rattle.bg_text.specs.Views.{option_of}
use Rattle.bg_ast.specs.Values as v
use Rattle.bg_ast.specs.Resolved as r
use Rattle.bg_kinds.specs.declared.kinds.IndexType.{IndexType}
use Rattle.bg_kinds.specs.declared.kinds.Keys.{Keys}
use Rattle.bg_kinds.specs.Kinds.{Kind, one_key, map_kind}
use Rattle.bg_kinds.specs.Views.{key_of, keys_of}

-- a row of brackets before a type
abbrev pub maps_before : List (List v.KeyType) → Kind → Kind
maps_before [] t = t
maps_before (ks ∷ kss) t = map_kind (Some ks) (maps_before kss t)

abbrev pub maps_of : Option (List (List v.KeyType)) → Kind → Kind
maps_of None t = None
maps_of (Some rows) t = maps_before rows t

-- the index types of a row of brackets
abbrev pub rows_in : (r.Tys → Option (List v.KeyType)) → r.Indices → Option (List (List v.KeyType))
rows_in keys r.NoIndex = Some []
rows_in keys (r.Index p ts is) = one_key (keys ts) (rows_in keys is)

-- one more behind, where both are there
abbrev pub both_keys : {A : Type 0} → Option (List A) → Option A → Option (List A)
both_keys (Some ks) (Some k) = Some (ks ++ k ∷ [])
both_keys _ _ = None

-- two lists in a row, where both are there
abbrev pub in_front : {A : Type 0} → Option (List A) → Option (List A) → Option (List A)
in_front (Some ks) (Some ls) = Some (ks ++ ls)
in_front _ _ = None

abbrev pub items_of : Vec IndexType Global → List v.KeyType
items_of ks = map key_of ks.items

abbrev pub keys_read : Option (Vec IndexType Global) → Option (List v.KeyType)
keys_read o = option_of items_of o

abbrev pub rows_of : Vec Keys Global → List (List v.KeyType)
rows_of ks = map keys_of ks.items

abbrev pub rows_read : Option (Vec Keys Global) → Option (List (List v.KeyType))
rows_read o = option_of rows_of o
