-- Terms in a table: one whose arguments are leaves stands there once, each other one where it is met.
use Rattle.std.specs.Prelude.{ℕ, suc, Bool, true, false, not, ◌&&◌, ◌==◌, if◌then◌else◌, List, [], ◌∷◌, ◌++◌, length, Option, Some, None, slice_get}
use Rattle.std.specs.Ordering.{int_eq}
use Rattle.bg_ast.specs.Values.{KeyType, Ty, IntTy, MapTy, result_of}
use Rattle.bg_ast.specs.Syntax.{Ex, Exs, Number, Fact, Read, Local, NoMore, More, Fun}
use Rattle.bg_sense.specs.Typing.{key_ty}
use Rattle.bg_terms.specs.Terms.{Head, Applies, Selects, Updates, Differs, Term, head_eq}
use Rattle.bg_terms.specs.Typed.{types_with}

abbrev pub bool_eq : Bool → Bool → Bool
bool_eq true b = b
bool_eq false b = not b

-- whether both are one number, one truth value, or reads of one incarnation or term
abbrev pub is_one_leaf : Ex → Ex → Bool
is_one_leaf (Number y) (Number z) = int_eq y z
is_one_leaf (Fact a) (Fact b) = bool_eq a b
is_one_leaf (Read (Local i)) (Read (Local j)) = i == j
is_one_leaf _ _ = false

-- the same, one by one
abbrev pub are_one : Exs → Exs → Bool
are_one NoMore NoMore = true
are_one (More x xs) (More y ys) = is_one_leaf x y && are_one xs ys
are_one _ _ = false

-- whether a term is one of this head and these leaves
abbrev pub is_that : Head → Exs → Term → Bool
is_that h xs t = head_eq t.head h && are_one t.args xs

-- the place of the first such term, where the first of these has this place
abbrev pub found_from : ℕ → Head → Exs → List Term → Option ℕ
found_from a h xs [] = None
found_from a h xs (t ∷ ts) = if is_that h xs t then Some a else found_from (suc a) h xs ts

abbrev pub result_or : Option Fun → Ty
result_or None = IntTy
result_or (Some f) = f.result

abbrev pub key_or : Option KeyType → Ty
key_or None = IntTy
key_or (Some k) = key_ty k

-- the type of what a head makes, where functions are these
abbrev pub head_ty : List Fun → Head → Ty
head_ty fs (Applies f) = result_or (slice_get fs f)
head_ty fs (Selects ks t) = t
head_ty fs (Updates ks t) = MapTy ks t
head_ty fs (Differs ks t j) = key_or (slice_get ks j)

-- the term of this head and these arguments
abbrev pub made : List Fun → Head → Exs → Term
made fs h xs = record { head = h; args = xs; ty = head_ty fs h }

abbrev pub with_by : Option ℕ → Term → List Term → List Term
with_by (Some a) t ts = ts
with_by None t ts = ts ++ (t ∷ [])

abbrev pub place_by : Option ℕ → List Term → ℕ
place_by (Some a) ts = a
place_by None ts = length ts

-- the table with this term in it, and its place there
abbrev pub with_term : List Fun → Head → Exs → List Term → List Term
with_term fs h xs ts = with_by (found_from 0 h xs ts) (made fs h xs) ts

abbrev pub place_term : Head → Exs → List Term → ℕ
place_term h xs ts = place_by (found_from 0 h xs ts) ts

-- ---- maps

abbrev pub ty_or : Option Ty → Ty
ty_or None = IntTy
ty_or (Some t) = t

-- the type of what reads an incarnation or a term, where these have these types; nothing else that is flat is a map
abbrev pub type_at : List Ty → Ex → Ty
type_at tys (Read (Local j)) = ty_or (slice_get tys j)
type_at tys _ = IntTy

abbrev pub keys_in : Ty → List KeyType
keys_in (MapTy ks t) = ks
keys_in _ = []

-- of maps of this type
abbrev pub select_head : Ty → Head
select_head t = Selects (keys_in t) (result_of t)

abbrev pub update_head : Ty → Head
update_head t = Updates (keys_in t) (result_of t)

-- the type of a map that is made flat, by a table of terms behind incarnations of these types
abbrev pub map_ty : List Ty → Ex → List Term → Ty
map_ty incs x ts = type_at (types_with incs ts) x

-- a select of a map at an index in the table, and its place there
abbrev pub with_select : List Fun → List Ty → Ex → Exs → List Term → List Term
with_select fs incs x xs ts = with_term fs (select_head (map_ty incs x ts)) (More x xs) ts

abbrev pub place_select : List Ty → Ex → Exs → List Term → ℕ
place_select incs x xs ts = place_term (select_head (map_ty incs x ts)) (More x xs) ts

-- the same of an update, with its new value
abbrev pub with_update : List Fun → List Ty → Ex → Ex → Exs → List Term → List Term
with_update fs incs x y xs ts = with_term fs (update_head (map_ty incs x ts)) (More x (More y xs)) ts

abbrev pub place_update : List Ty → Ex → Ex → Exs → List Term → ℕ
place_update incs x y xs ts = place_term (update_head (map_ty incs x ts)) (More x (More y xs)) ts
