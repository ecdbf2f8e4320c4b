-- What is asked of updates at a leaf, and what is answered.
use Rattle.std.specs.Prelude.{◌≡◌, ℕ, Bool, true, false, List, [], ◌∷◌, length, map, Option, Some, None, slice_get, ◌==◌}
use Rattle.bg_ast.specs.Values.{Ty, val_eq}
use Rattle.bg_ast.specs.Syntax.{Fun, Exs, NoMore, More}
use Rattle.bg_sense.specs.Types.{are_of}
use Rattle.bg_terms.specs.Terms.{Term}
use Rattle.bg_terms.specs.Instances.{accesses}
use Rattle.bg_terms.specs.Alike.{scalar_ty}
use Rattle.bg_terms.specs.Typed.{types_with, TermsTyped}
use Rattle.bg_numbered.specs.Lines.{HaveIndices}
use Rattle.bg_term_table.specs.Views.{terms_in}
use Rattle.bg_term_table.specs.Locals.{local_in}
use Rattle.bg_scalar.specs.declared.scalar.Scalar.{Scalar}
use Rattle.bg_scalar.specs.Values.{val_of}
use Rattle.bg_wanted.specs.Scalars.{scalars_in}
use Rattle.bg_wanted.specs.declared.class.Class.{Class}
use Rattle.bg_wanted.specs.declared.class.Class.TheVariants as class
use Rattle.bg_wanted.specs.declared.looked.Looked.{Looked}
use Rattle.bg_wanted.specs.declared.looked.Update.{Update}
use Rattle.bg_wanted.specs.declared.wants.Wants.{Wants}
use Rattle.bg_wanted.specs.Classes.{AreMet}
use Rattle.bg_wanted.specs.Rows.{RowOf, rows_of, AreRows}
use Rattle.bg_wanted.specs.Firsts.{HasFirsts, Agreeing, key_of, first_row}
use Rattle.bg_wanted.specs.Selects.{HasSelects, map_in}
use Rattle.bg_wanted.specs.Updates.{HereBy, AtOther, ElsewhereBy, AreSettled}
use Rattle.bg_wanted.specs.Telling.{AreTold}

abbrev pub looked_rows : Looked → List RowOf
looked_rows l = rows_of l.rows.now

-- typed terms with their scalars and rows, of which those of one key have one scalar
pub record IsLooked (fs : List Fun) (incs : List Ty) (values : List Scalar) (l : Looked) : Type 0 where
  pub count : l.count ≡ length incs
  pub terms : TermsTyped fs incs (terms_in fs l.terms.now)
  pub indexed : HaveIndices (terms_in fs l.terms.now)
  pub scalars : are_of (map scalar_ty (types_with incs (terms_in fs l.terms.now))) (scalars_in values) ≡ true
  pub rows : AreRows values (length incs) (terms_in fs l.terms.now) 0 (terms_in fs l.terms.now) (looked_rows l)
  pub met : AreMet (terms_in fs l.terms.now) (length (terms_in fs l.terms.now)) l.met.now
  pub firsts : HasFirsts l.firsts.now.known (looked_rows l)
  pub selects : HasSelects l.selects.now (looked_rows l)
  pub agree : Agreeing (looked_rows l)

-- an update is that of a row
pub record IsOf (rs : List RowOf) (u : Update) : Type 0 where
  pub row : RowOf
  pub is_there : slice_get rs u.number ≡ Some row
  pub its_class : row.class ≡ class.Update u.maps
  pub its_value : row.value ≡ u.value
  pub its_args : row.args ≡ u.before ∷ u.new ∷ u.index.now

abbrev pub IsHereOf : List RowOf → Update → Type 0
IsHereOf rs u = HereBy rs u.maps u.value (u.before ∷ u.new ∷ u.index.now)

abbrev pub IsAgreed : List RowOf → Update → RowOf → Type 0
IsAgreed rs u r = AtOther rs u.maps u.value u.before u.index.now r

-- the row at this place, if it is there, is one at which both maps agree
abbrev pub IsAgreedAt : List RowOf → Update → ℕ → Type 0
IsAgreedAt rs u a = (r : RowOf) → slice_get rs a ≡ Some r → IsAgreed rs u r

-- the same of each select from a map with this scalar
abbrev pub AreAgreed : Looked → Update → Scalar → Type 0
AreAgreed l u x =
    (a : ℕ) (r : RowOf) → slice_get (looked_rows l) a ≡ Some r → map_in r.class r.args ≡ Some (u.maps, x) → IsAgreed (looked_rows l) u r

-- lines are told, and only where something isn't settled
pub record IsState (fs : List Fun) (incs : List Ty) (l : Looked) (w : Wants) : Type 0 where
  pub told : AreTold incs (terms_in fs l.terms.now) w []
  pub reason : (w.made.items ≡ [] → ⊥) → AreSettled (looked_rows l) → ⊥

-- one state comes behind another, and where still nothing is told this is so
abbrev pub Goes : Looked → (old new : Wants) → Type 0 → Type 0
Goes l old new P =
    (fs : List Fun) (incs : List Ty) (values : List Scalar) → IsLooked fs incs values l → IsState fs incs l old →
    IsState fs incs l new × ((new.made.items ≡ [] → old.made.items ≡ []) × (new.made.items ≡ [] → P))

-- the number of the map that a term selects from or updates
abbrev pub first_local : Exs → Option ℕ
first_local NoMore = None
first_local (More x xs) = local_in x

abbrev pub map_read_in : Option Term → Option ℕ
map_read_in None = None
map_read_in (Some t) = first_local t.args

-- the row at a place is a select of an update's maps from the one with this scalar
abbrev pub IsSelectOf : Looked → Update → Scalar → ℕ → Type 0
IsSelectOf l u x a =
    (r : RowOf) × ((slice_get (looked_rows l) a ≡ Some r) × (map_in r.class r.args ≡ Some (u.maps, x)))

abbrev pub is_place : ℕ → Option (ℕ × Scalar) → Bool
is_place a None = false
is_place a (Some p) = a == p.0

-- the row at a place is the first of its key
abbrev pub IsFirst : List RowOf → ℕ → Type 0
IsFirst rs a = (r : RowOf) → slice_get rs a ≡ Some r → is_place a (first_row (key_of r) 0 rs) ≡ true

-- whether what is found has this scalar
abbrev pub has_scalar : Option (ℕ × Scalar) → Scalar → Bool
has_scalar None x = false
has_scalar (Some p) x = val_eq (val_of p.1) (val_of x)

-- whether two that are found have one
abbrev pub are_alike : Option (ℕ × Scalar) → Option (ℕ × Scalar) → Bool
are_alike None q = false
are_alike (Some p) q = has_scalar q p.1

-- the index among a select's arguments
abbrev pub index_in : List Scalar → Option (List Scalar)
index_in [] = None
index_in (x ∷ k) = Some k

abbrev pub index_there : Option RowOf → Option (List Scalar)
index_there None = None
index_there (Some r) = index_in r.args

-- the row at a place is a select of an update's maps from the one with this scalar at this index
pub record IsAtIndex (l : Looked) (u : Update) (x : Scalar) (a : ℕ) (k : List Scalar) : Type 0 where
  pub row : RowOf
  pub is_there : slice_get (looked_rows l) a ≡ Some row
  pub its_class : row.class ≡ class.Select u.maps
  pub its_args : row.args ≡ x ∷ k

-- an update isn't selected from at the index of the row at a place
abbrev pub IsUnseen : Looked → Update → ℕ → Type 0
IsUnseen l u a =
    (r : RowOf) (x : Scalar) (k : List Scalar) → slice_get (looked_rows l) a ≡ Some r → r.args ≡ x ∷ k →
    first_row (class.Select u.maps, u.value ∷ k) 0 (looked_rows l) ≡ None

-- a term is an update, and another selects from maps of its type
pub record IsAsked (fs : List Fun) (incs : List Ty) (l : Looked) (u a : ℕ) : Type 0 where
  pub count : l.count ≡ length incs
  pub terms : TermsTyped fs incs (terms_in fs l.terms.now)
  pub indexed : HaveIndices (terms_in fs l.terms.now)
  pub update : Term
  pub select : Term
  pub is_there : slice_get (terms_in fs l.terms.now) u ≡ Some update
  pub other : slice_get (terms_in fs l.terms.now) a ≡ Some select
  pub accesses : accesses update.head select.head ≡ true

-- an update gives its new value at its index, and elsewhere what its map does
abbrev pub IsRight : List RowOf → Update → Type 0
IsRight rs u =
    IsHereOf rs u × ElsewhereBy rs u.maps u.value (u.before ∷ u.new ∷ u.index.now)

abbrev pub is_update_of : Class → List Scalar → Bool
is_update_of (class.Update m) (b ∷ v ∷ q) = true
is_update_of _ _ = false

-- whether a row is an update
abbrev pub is_update : RowOf → Bool
is_update r = is_update_of r.class r.args

abbrev pub has_two : List Scalar → Bool
has_two (b ∷ v ∷ q) = true
has_two _ = false

-- the update with this number and scalar, of such maps, with these arguments
pub record IsUpdateWith (number maps : ℕ) (value : Scalar) (args : List Scalar) (u : Update) : Type 0 where
  pub its_number : u.number ≡ number
  pub its_maps : u.maps ≡ maps
  pub its_value : u.value ≡ value
  pub its_args : args ≡ u.before ∷ u.new ∷ u.index.now

-- the same of a row
pub record IsUpdateOf (number : ℕ) (r : RowOf) (u : Update) : Type 0 where
  pub its_number : u.number ≡ number
  pub its_class : r.class ≡ class.Update u.maps
  pub its_value : r.value ≡ u.value
  pub its_args : r.args ≡ u.before ∷ u.new ∷ u.index.now

-- a row, if it is an update, gives its new value at its index, and elsewhere what its map does
abbrev pub IsRightRow : List RowOf → RowOf → Type 0
IsRightRow rs r =
    (m : ℕ) → r.class ≡ class.Update m → HereBy rs m r.value r.args × ElsewhereBy rs m r.value r.args

-- so is each update
abbrev pub AreRight : List RowOf → Type 0
AreRight rs =
    (u m : ℕ) (r : RowOf) → slice_get rs u ≡ Some r → r.class ≡ class.Update m → HereBy rs m r.value r.args × ElsewhereBy rs m r.value r.args
