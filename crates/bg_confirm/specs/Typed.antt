-- Whether the values and tables that a certificate gives are those of constants and functions, by name and type.
use Rattle.std.specs.Prelude.{ℕ, Bool, true, false, ◌&&◌, if◌then◌else◌, List, [], ◌∷◌, drop, Option, Some, None, is_some, slice_get}
use Rattle.std.specs.List.{list_all}
use Rattle.std.specs.Str.{bytes_eq}
use Rattle.bg_ast.specs.Values.{KeyType, IntKey, UserKey, Ty, IntTy, BoolTy, UserTy, MapTy}
use Rattle.bg_ast.specs.Syntax.{Fun}
use Rattle.bg_ast.specs.Resolved as r
use Rattle.bg_ast.specs.Meaning.{named_of, fun_of}
use Rattle.bg_certtext.specs.Views.{PartOf, AtNumber, AtElement, ValueOf, Truth, Number, Element, Default, Slot, Item, EntryOf, FunctionOf}
use Rattle.bg_confirm.specs.Pairs.{each_fits}

-- the name of a type; no bytes where there is none
abbrev pub name_of : Option r.TypeName → List ℕ
name_of None = []
name_of (Some d) = d.name.text

-- where these types are declared
module _ (types : List r.TypeName) where
  -- a part of an index is of an index type; an element has the name of its type
  abbrev pub part_fits : KeyType → PartOf → Bool
  part_fits IntKey (AtNumber z) = true
  part_fits (UserKey k) (AtElement name z) = bytes_eq (name_of (slice_get types k)) name
  part_fits _ _ = false

  abbrev pub index_fits : List KeyType → List PartOf → Bool
  index_fits ks ps = each_fits part_fits ks ps

  -- a value is of a type; an element has the name of its type
  abbrev pub value_fits : Ty → ValueOf → Bool
  value_fits BoolTy (Truth b) = true
  value_fits IntTy (Number z) = true
  value_fits (UserTy k) (Element name z) = bytes_eq (name_of (slice_get types k)) name
  value_fits (MapTy ks t) (Default d) = value_fits t d
  value_fits (MapTy ks t) (Slot k v m) = index_fits ks k && (value_fits t v && value_fits (MapTy ks t) m)
  value_fits _ _ = false

  -- the indices of slots are of these types, their values of this one
  abbrev pub slots_fit : List KeyType → Ty → List Item → Bool
  slots_fit ks t es = list_all (λ (e : Item). index_fits ks e.0 && value_fits t e.1) es

  abbrev pub values_fit : List Ty → List ValueOf → Bool
  values_fit ts xs = each_fits value_fits ts xs

  abbrev pub entry_by : List Ty → Ty → EntryOf → Bool
  entry_by ts t e = values_fit ts e.key && value_fits t e.value

  abbrev pub entries_by : List Ty → Ty → List EntryOf → Bool
  entries_by ts t es = list_all (entry_by ts t) es

  abbrev pub entry_fits : Fun → EntryOf → Bool
  entry_fits f e = entry_by f.params f.result e

  abbrev pub entries_fit : Fun → List EntryOf → Bool
  entries_fit f es = entries_by f.params f.result es

  -- the values of a table are of the function's types
  abbrev pub table_fits : Fun → FunctionOf → Bool
  table_fits f g = value_fits f.result g.default && entries_fit f g.entries

  -- and it has the function's name
  abbrev pub function_fits : r.Fun → FunctionOf → Bool
  function_fits f g = bytes_eq f.name.text g.name && table_fits (fun_of (named_of types) f) g

  abbrev pub first_fits : r.Fun → List FunctionOf → Bool
  first_fits f [] = false
  first_fits f (g ∷ gs) = function_fits f g

  -- the tables are those of the functions without a body, in order
  abbrev pub functions_fit : List r.Fun → List FunctionOf → Bool
  functions_fit [] [] = true
  functions_fit [] (g ∷ gs) = false
  functions_fit (f ∷ fs) gs =
      if is_some f.body then functions_fit fs gs else first_fits f gs && functions_fit fs (drop 1 gs)
