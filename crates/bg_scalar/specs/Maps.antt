-- The entries of maps, in their order.
use Rattle.std.specs.Prelude.{ℕ, zero, suc, ℤ, Bool, true, false, ◌&&◌, if◌then◌else◌, List, [], ◌∷◌, ◌++◌, take, drop, map, Option, Some, None}
use Rattle.std.specs.List.{insert}
use Rattle.bg_ast.specs.Values.{Val, Default, Entry, keys_eq, keys_lt, val_eq}
use Rattle.bg_scalar.specs.Values.{value_of}
use Rattle.bg_scalar.specs.declared.value.Entry as kept

-- an entry as a key and a value
abbrev pub Item : Type 0
Item = List ℤ × Val

abbrev pub entry_in : kept.Entry → Item
entry_in e = (e.key.items, value_of e.value)

abbrev pub with_entries : List Item → Val → Val
with_entries [] m = m
with_entries (e ∷ es) m = Entry e.0 e.1 (with_entries es m)

-- the map with these entries and this default
abbrev pub map_of : List kept.Entry → Val → Val
map_of es d = with_entries (map entry_in es) (Default d)

abbrev pub entries_eq : List Item → List Item → Bool
entries_eq [] [] = true
entries_eq [] (f ∷ fs) = false
entries_eq (e ∷ es) [] = false
entries_eq (e ∷ es) (f ∷ fs) = keys_eq e.0 f.0 && (val_eq e.1 f.1 && entries_eq es fs)

abbrev pub key_in : kept.Entry → List ℤ
key_in e = e.key.items

-- the place of the first key that doesn't stand before this one
abbrev pub place_in : List (List ℤ) → List ℤ → ℕ
place_in [] q = zero
place_in (k ∷ ks) q = if keys_eq q k then zero else if keys_lt q k then zero else suc (place_in ks q)

abbrev pub is_key : Option (List ℤ) → List ℤ → Bool
is_key None q = false
is_key (Some k) q = keys_eq q k

-- the entries without the one at a place
abbrev pub taken_out : Bool → ℕ → List Item → List Item
taken_out true i es = take i es ++ drop (suc i) es
taken_out false i es = es

-- the entries with one more at a place
abbrev pub put_in : Bool → ℕ → Item → List Item → List Item
put_in true i e es = es
put_in false i e es = insert es i e
