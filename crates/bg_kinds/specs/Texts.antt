-- How a type is written, synonyms unfolded.
use Rattle.std.specs.Prelude.{ℕ, Bool, true, false, List, [], ◌∷◌, ◌++◌, Option, Some, None, slice_get, codes}
use Rattle.bg_ast.specs.Values as v
use Rattle.bg_ast.specs.Resolved as r

abbrev pub name_in : Option r.TypeName → List ℕ
name_in None = []
name_in (Some d) = d.name.text

abbrev pub name_text : List r.TypeName → ℕ → List ℕ
name_text ds k = name_in (slice_get ds k)

abbrev pub key_text : List r.TypeName → v.KeyType → List ℕ
key_text ds v.IntKey = codes "int"
key_text ds (v.UserKey k) = name_text ds k

abbrev pub gap_text : Bool → List ℕ
gap_text false = []
gap_text true = codes ","

abbrev pub keys_from : List r.TypeName → Bool → List v.KeyType → List ℕ
keys_from ds b [] = []
keys_from ds b (k ∷ ks) = (gap_text b ++ key_text ds k) ++ keys_from ds true ks

abbrev pub keys_text : List r.TypeName → List v.KeyType → List ℕ
keys_text ds ks = codes "[" ++ (keys_from ds false ks ++ codes "]")

-- `int`, `bool`, a name, or `[T1,T2]T`
abbrev pub type_text : List r.TypeName → v.Ty → List ℕ
type_text ds v.IntTy = codes "int"
type_text ds v.BoolTy = codes "bool"
type_text ds (v.UserTy k) = name_text ds k
type_text ds (v.MapTy ks t) = keys_text ds ks ++ type_text ds t

abbrev pub maps_text : List r.TypeName → List (List v.KeyType) → List ℕ
maps_text ds [] = []
maps_text ds (ks ∷ kss) = keys_text ds ks ++ maps_text ds kss
