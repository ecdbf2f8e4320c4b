-- The types of variables, and values of a type as they are kept.
use Rattle.std.specs.Prelude.{ℕ, ℤ, Bool, true, not, ◌&&◌, ◌==◌, List, [], ◌∷◌, length, map, Option, Some, None, slice_get, unwrap_or}
use Rattle.std.specs.Borrow.{Bor}
use Rattle.bg_ast.specs.Values.{Val, Ty, IntTy, keys_lt, val_eq, is_of}
use Rattle.bg_ast.specs.Syntax.{Var, Global, Local}
use Rattle.bg_ast.specs.Resolved as r
use Rattle.bg_ast.specs.Meaning.{named_of, decl_of}
use Rattle.bg_sense.specs.Types.{types_of}
use Rattle.bg_scalar.specs.Maps.{Item}
use Rattle.bg_scalar.specs.declared.value.Entry.{Entry}
use Rattle.bg_replay.specs.Moments.{Around}

-- the types of results of these declarations
abbrev pub results_in : r.Program → List r.Declared → List Ty
results_in p ds = types_of (map (decl_of (named_of p.types)) ds)

-- the type of a variable; one that isn't declared is a whole number, as executions have it
abbrev pub type_at : List Ty → ℕ → Ty
type_at ts x = unwrap_or (slice_get ts x) IntTy

abbrev pub variable_type : Around → Var → Ty
variable_type a (Global x) = type_at a.globals x
variable_type a (Local x) = type_at a.frame x

-- whether a key is below the next one, if there is one
abbrev pub is_below : List ℤ → Option (List ℤ) → Bool
is_below q None = true
is_below q (Some k) = keys_lt q k

-- the key of the first of these entries
abbrev pub first_key : List Item → Option (List ℤ)
first_key [] = None
first_key (e ∷ es) = Some e.0

-- the key of an entry, if there is one
abbrev pub key_at : Option (Bor Entry) → Option (List ℤ)
key_at None = None
key_at (Some e) = Some e.now.key.items

-- whether an entry may stand before one with this key, in a map with this default, whose keys have this many parts and whose values are of
-- this type
abbrev pub is_fit : ℕ → Ty → Val → Item → Option (List ℤ) → Bool
is_fit n t d e k = (n == length e.0) && (is_of t e.1 && (not (val_eq e.1 d) && is_below e.0 k))

-- whether entries are those of such a map, in normal form
abbrev pub are_entries : ℕ → Ty → Val → List Item → Bool
are_entries n t d [] = true
are_entries n t d (e ∷ es) = is_fit n t d e (first_key es) && are_entries n t d es
