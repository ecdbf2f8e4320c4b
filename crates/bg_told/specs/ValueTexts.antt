-- Texts of values, by their types.
use Rattle.std.specs.Prelude.{ℕ, ℤ, Bool, true, false, List, [], ◌∷◌, ◌++◌, codes, filter, flat_map, slice_get}
use Rattle.std.specs.Fmt.{signed_decimal}
use Rattle.bg_ast.specs.Values.{KeyType, IntKey, UserKey, Ty, MapTy, Val, Num, Truth, Element, Default, Entry, Table, result_of}
use Rattle.bg_told.specs.Lines.{texts, text_or_none, is_printed}

abbrev pub truth_text : Bool → List ℕ
truth_text true = codes "true"
truth_text false = codes "false"

-- the index types of a map
abbrev pub index_types : Ty → List KeyType
index_types (MapTy ks t) = ks
index_types t = []

-- an entry by its key and its value, and what stands in front of the next one
abbrev pub front_text : (key value : List ℕ) → List ℕ
front_text key value = key ++ (codes " := " ++ (value ++ codes ", "))

-- a default, and the bracket that closes the map or the table
abbrev pub default_text : List ℕ → List ℕ
default_text value = codes "else " ++ (value ++ codes "]")

-- where types have these names
module _ (types : List (List ℕ)) where
  -- the element with a number of the type with a number. Of the type's name other bytes are left out; a name in a text has none
  abbrev pub element_text : (ty : ℕ) (number : ℤ) → List ℕ
  element_text t z = filter is_printed (text_or_none (slice_get types t)) ++ codes "!" ++ signed_decimal z

  -- a part of an index, by its type
  abbrev pub number_text : KeyType → ℤ → List ℕ
  number_text IntKey z = signed_decimal z
  number_text (UserKey t) z = element_text t z

  abbrev pub number_behind : KeyType → ℤ → List ℕ
  number_behind k z = codes "," ++ number_text k z

  -- an index: its parts, with commas between them
  abbrev pub index_text : List KeyType → List ℤ → List ℕ
  index_text [] zs = []
  index_text (k ∷ ks) [] = []
  index_text (k ∷ ks) (z ∷ zs) = number_text k z ++ texts number_behind ks zs

  abbrev mutual
    -- a value of a type: a truth value, a whole number, an element, or a map by its entries in their order and its default
    pub value_text : Ty → Val → List ℕ
    value_text t (Truth b) = truth_text b
    value_text t (Num z) = signed_decimal z
    value_text t (Element u z) = element_text u z
    value_text t (Default d) = codes "[" ++ default_text (value_text (result_of t) d)
    value_text t (Entry k v m) = codes "[" ++ (front_text (index_text (index_types t) k) (value_text (result_of t) v) ++ inside_text t m)

    -- what stands behind the bracket of a map
    pub inside_text : Ty → Val → List ℕ
    inside_text t (Default d) = default_text (value_text (result_of t) d)
    inside_text t (Entry k v m) = front_text (index_text (index_types t) k) (value_text (result_of t) v) ++ inside_text t m
    inside_text t v = []

  -- a key of a table: its parts, with commas between them
  abbrev pub part_text : Ty → Val → List ℕ
  part_text t v = codes "," ++ value_text t v

  abbrev pub key_text : List Ty → List Val → List ℕ
  key_text [] vs = []
  key_text (t ∷ ts) [] = []
  key_text (t ∷ ts) (v ∷ vs) = value_text t v ++ texts part_text ts vs

  -- what a table has at a key
  abbrev pub mapping_text : List Ty → Ty → List Val × Val → List ℕ
  mapping_text ts t e = front_text (key_text ts e.0) (value_text t e.1)

  -- a table from arguments of these types to this one: its entries in their order, and its default
  abbrev pub table_text : List Ty → Ty → Table → List ℕ
  table_text ts t table = codes "[" ++ (flat_map (mapping_text ts t) table.entries ++ default_text (value_text t table.default))
