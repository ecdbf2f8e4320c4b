-- Values of constants and tables of functions, as a certificate has them.
use Rattle.std.specs.Prelude.{ℕ, ℤ, Bool, if◌then◌else◌, List, [], ◌∷◌, map, drop, Option, Some, None, slice_get, unwrap_or}
use Rattle.bg_ast.specs.Values as v
use Rattle.bg_ast.specs.Values.{KeyType, IntKey, UserKey, Ty, MapTy, Val, Table, result_of}
use Rattle.bg_ast.specs.Resolved as r
use Rattle.bg_ast.specs.Meaning.{type_in, named_of, decl_of}
use Rattle.bg_sense.specs.Types.{types_of}
use Rattle.bg_scalar.specs.Views.{vals_in, tables_in}
use Rattle.bg_replay.specs.Holds.{type_at}
use Rattle.bg_check.specs.declared.verdict.Verdict.{Verdict}
use Rattle.bg_check.specs.declared.verdict.Verdict.TheVariants.{Proved, Refuted, Unknown, Left}
use Rattle.bg_certtext.specs.Views.{PartOf, AtNumber, AtElement, ValueOf, Truth, Number, Element, Default, Slot, Item, GivenOf, EntryOf, FunctionOf, InterpOf}

-- a name of a list; nothing where there is none
abbrev pub name_or_none : Option (List ℕ) → List ℕ
name_or_none None = []
name_or_none (Some name) = name

-- a function's name, and the types of its arguments and its value
pub record HeadOf : Type 0 where
  pub name : List ℕ
  pub params : List Ty
  pub result : Ty

-- the index types of a map type; none of another
abbrev pub keys_in : Ty → List KeyType
keys_in (MapTy ks t) = ks
keys_in t = []

-- the index type at a place; whole numbers where there is none
abbrev pub key_at : List KeyType → ℕ → KeyType
key_at ks i = unwrap_or (slice_get ks i) IntKey

-- where types have these names
module _ (types : List (List ℕ)) where
  -- a part of an index is a number, whose type says whether it is an element
  abbrev pub part_of : KeyType → ℤ → PartOf
  part_of IntKey z = AtNumber z
  part_of (UserKey k) z = AtElement (name_or_none (slice_get types k)) z

  abbrev pub index_of : List KeyType → List ℤ → List PartOf
  index_of ks [] = []
  index_of ks (z ∷ zs) = part_of (key_at ks 0) z ∷ index_of (drop 1 ks) zs

  -- a value of a type
  abbrev pub value_of : Ty → Val → ValueOf
  value_of t (v.Num z) = Number z
  value_of t (v.Truth b) = Truth b
  value_of t (v.Element k z) = Element (name_or_none (slice_get types k)) z
  value_of t (v.Default d) = Default (value_of (result_of t) d)
  value_of t (v.Entry k x m) = Slot (index_of (keys_in t) k) (value_of (result_of t) x) (value_of t m)

  -- an entry of a map with these index types, and of values of this type
  abbrev pub slot_for : List KeyType → Ty → List ℤ × Val → Item
  slot_for ks t e = (index_of ks e.0, value_of t e.1)

  -- values of types, one by one
  abbrev pub values_of : List Ty → List Val → List ValueOf
  values_of ts [] = []
  values_of ts (x ∷ xs) = value_of (type_at ts 0) x ∷ values_of (drop 1 ts) xs

  -- names and types with their values, as far as names and values go
  abbrev pub givens : List (List ℕ) → List Ty → List Val → List GivenOf
  givens [] ts xs = []
  givens (n ∷ ns) ts [] = []
  givens (n ∷ ns) ts (x ∷ xs) = record { name = n; value = value_of (type_at ts 0) x } ∷ givens ns (drop 1 ts) xs

  -- an entry of a function's table, and the table
  abbrev pub entry_of : List Ty → Ty → List Val × Val → EntryOf
  entry_of ts t e = record { key = values_of ts e.0; value = value_of t e.1 }

  abbrev pub function_of : HeadOf → Table → FunctionOf
  function_of f t =
      record {
        name = f.name;
        entries = map (entry_of f.params f.result) t.entries;
        default = value_of f.result t.default;
      }

  -- the tables of functions with these names and types, but for those that have a body, as far as all go
  abbrev pub functions : List HeadOf → List Bool → List Table → List FunctionOf
  functions [] bodies ts = []
  functions (f ∷ fs) [] ts = []
  functions (f ∷ fs) (b ∷ bs) [] = []
  functions (f ∷ fs) (b ∷ bs) (t ∷ ts) = if b then functions fs bs ts else function_of f t ∷ functions fs bs ts

-- names of types, names and types of constants, of functions, and which of these have a body
pub record NamesOf : Type 0 where
  pub types : List (List ℕ)
  pub constants : List (List ℕ)
  pub constant_types : List Ty
  pub functions : List HeadOf
  pub bodies : List Bool

-- the values and tables of what has these names, where the verdict on the axioms' own program has some: a counterexample to its one place
abbrev pub interp_by : NamesOf → Verdict → Option InterpOf
interp_by names (Proved proof) = None
interp_by names (Refuted cex) =
    Some (record {
      constants = givens names.types names.constants names.constant_types (vals_in cex.globals.items);
      functions = functions names.types names.functions names.bodies (tables_in cex.tables.items);
    })
interp_by names (Unknown rounds cause) = None
interp_by names (Left kept) = None

-- the names of constants, and of the variables that stand for them
abbrev pub constant_names : List r.Const → List (List ℕ)
constant_names cs = map (λ c. c.name.text) cs

abbrev pub declared_names : List r.Declared → List (List ℕ)
declared_names ds = map (λ d. d.name.text) ds

-- their types, where these types are declared
abbrev pub constant_types : List r.TypeName → List r.Const → List Ty
constant_types types cs = map (λ c. type_in (named_of types) c.ty) cs

abbrev pub declared_types : List r.TypeName → List r.Declared → List Ty
declared_types types ds = types_of (map (decl_of (named_of types)) ds)

-- the names of types
abbrev pub type_names : List r.TypeName → List (List ℕ)
type_names ds = map (λ d. d.name.text) ds

-- the names and types of functions, where these types are declared
abbrev pub head_of : List r.TypeName → r.Fun → HeadOf
head_of types f =
    record { name = f.name.text; params = map (type_in (named_of types)) f.params; result = type_in (named_of types) f.result }

abbrev pub heads : List r.TypeName → List r.Fun → List HeadOf
heads types fs = map (head_of types) fs
