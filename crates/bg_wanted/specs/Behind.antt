-- What stands behind scalars, by rows.
use Rattle.std.specs.Prelude.{ℕ, List, [], ◌∷◌, length, Option, Some, None, slice_get}
use Rattle.bg_ast.specs.Values.{Val, Num, Truth, Element, Default, Ty, IntTy, BoolTy, UserTy, MapTy, KeyType, number_of, truth_of, update}
use Rattle.bg_sense.specs.Eval.{default_for}
use Rattle.bg_terms.specs.Terms.{Term}
use Rattle.bg_terms.specs.Built.{built}
use Rattle.bg_scalar.specs.declared.scalar.Scalar.{Scalar}
use Rattle.bg_scalar.specs.Values.{val_of, value_of}
use Rattle.bg_scalar.specs.Maps.{map_of}
use Rattle.bg_wanted.specs.Scalars.{key_of}
use Rattle.bg_wanted.specs.declared.tables.Entries.{Entries}
use Rattle.bg_wanted.specs.Classes.{first_before}
use Rattle.bg_wanted.specs.Rows.{RowOf}
use Rattle.bg_wanted.specs.Selects.{places_of}

-- what stands behind a scalar of a type that is no map
abbrev pub behind_base : Ty → Val → Val
behind_base IntTy v = Num (number_of v)
behind_base BoolTy v = Truth (truth_of v)
behind_base (UserTy u) v = Element u (number_of v)
behind_base (MapTy ks t) v = v

abbrev pub places_by : Option ℕ → Scalar → List RowOf → List ℕ
places_by None x rs = []
places_by (Some m) x rs = places_of (m, x) 0 rs

-- the places of the selects from a map of this type with this scalar
abbrev pub places_in : List Term → List KeyType → Ty → Scalar → List RowOf → List ℕ
places_in ts ks t x rs = places_by (first_before ks t (length ts) 0 ts) x rs

-- the index among a select's arguments, with its scalar
abbrev pub parts_by : List Scalar → Scalar → Option (List Scalar × Scalar)
parts_by [] v = None
parts_by (x ∷ q) v = Some (q, v)

abbrev pub parts_in : RowOf → Option (List Scalar × Scalar)
parts_in r = parts_by r.args r.value

abbrev pub parts_there : Option RowOf → Option (List Scalar × Scalar)
parts_there None = None
parts_there (Some r) = parts_in r

module _ (s : List Val) (n : ℕ) (ts : List Term) where
  abbrev pub put_parts : Ty → Option (List Scalar × Scalar) → Val → Val
  put_parts t None m = m
  put_parts t (Some p) m = update m (key_of p.0) (built s n ts t (val_of p.1))

  -- a map to values of this type with the entry that the row at this place tells
  abbrev pub put_of : Ty → List RowOf → ℕ → Val → Val
  put_of t rs a m = put_parts t (parts_there (slice_get rs a)) m

  -- a map without entries, with those of the rows at these places, the last one first
  abbrev pub put_all : Ty → List RowOf → List ℕ → Val
  put_all t rs [] = Default (default_for t)
  put_all t rs (a ∷ ps) = put_of t rs a (put_all t rs ps)

abbrev pub entries_of : Entries → Val
entries_of e = map_of e.entries.items (value_of e.default)
