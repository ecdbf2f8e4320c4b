-- Tables of functions, in normal form: entries in the order of their keys, and none equal to the default.
use Rattle.std.specs.Prelude.{Bool, true, false, not, ◌&&◌, ◌||◌, if◌then◌else◌, List, [], ◌∷◌, Option, Some, None, ◌==◌, int_lt}
use Rattle.bg_ast.specs.Values.{Val, Num, Truth, Element, Default, Entry, Table, keys_eq, keys_lt, val_eq, is_of}
use Rattle.bg_ast.specs.Syntax.{Ex, Fun}
use Rattle.bg_sense.specs.Eval.{default_for}
use Rattle.bg_sense.specs.Types.{are_of}

-- the order of the values of one type: numbers by size, `false` before `true`, maps by their entries and then by their default
abbrev pub val_lt : Val → Val → Bool
val_lt (Num x) (Num y) = int_lt x y
val_lt (Truth a) (Truth b) = not a && b
val_lt (Element t x) (Element u y) = t == u && int_lt x y
val_lt (Default a) (Default b) = val_lt a b
val_lt (Default a) (Entry l w n) = true
val_lt (Entry k v m) (Entry l w n) =
    if keys_lt k l then true else keys_eq k l && (if val_lt v w then true else val_eq v w && val_lt m n)
val_lt _ _ = false

-- the order of keys: part by part
abbrev pub vals_lt : List Val → List Val → Bool
vals_lt [] [] = false
vals_lt [] (w ∷ ws) = true
vals_lt (v ∷ vs) [] = false
vals_lt (v ∷ vs) (w ∷ ws) = if val_lt v w then true else val_eq v w && vals_lt vs ws

-- whether a key is below the first of these entries
abbrev pub is_before : List Val → List (List Val × Val) → Bool
is_before q [] = true
is_before q (e ∷ es) = vals_lt q e.0

-- whether entries are typed, in the order of their keys, and none has the default's value
abbrev pub are_entries : Fun → Val → List (List Val × Val) → Bool
are_entries f d [] = true
are_entries f d (e ∷ es) =
    are_of f.params e.0 && (is_of f.result e.1 && (not (val_eq e.1 d) && (is_before e.0 es && are_entries f d es)))

-- whether a table is typed and in normal form
abbrev pub is_table : Fun → Table → Bool
is_table f t = is_of f.result t.default && are_entries f t.default t.entries

-- whether a function has a body
abbrev pub has_body : Option Ex → Bool
has_body None = false
has_body (Some e) = true

-- whether there are no entries
abbrev pub is_empty : List (List Val × Val) → Bool
is_empty [] = true
is_empty (e ∷ es) = false

-- the table that stands for none
abbrev pub is_blank : Fun → Table → Bool
is_blank f t = is_empty t.entries && val_eq t.default (default_for f.result)

-- whether a table is one for this function: where it has a body, there is none
abbrev pub is_table_of : Fun → Table → Bool
is_table_of f t = is_table f t && (not (has_body f.body) || is_blank f t)

-- one table for each function
abbrev pub are_tables : List Fun → List Table → Bool
are_tables [] [] = true
are_tables [] (t ∷ ts) = false
are_tables (f ∷ fs) [] = false
are_tables (f ∷ fs) (t ∷ ts) = is_table_of f t && are_tables fs ts
