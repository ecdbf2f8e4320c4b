-- Terms: each application, select and update is an incarnation of its own, behind those of the variables. Programs are opened before:
-- constants are globals there, and bodies of functions stand in the place of their applications.
use Rattle.std.specs.Prelude.{◌≡◌, ℕ, zero, suc, ℤ, pos, Bool, true, false, ◌&&◌, ◌==◌, nat_lt, List, [], ◌∷◌, ◌++◌, map, slice_get, Some}
use Rattle.bg_ast.specs.Values.{Val, Num, Element, Ty, MapTy, KeyType, IntKey, UserKey, select, update, number_of, is_of}
use Rattle.bg_ast.specs.Syntax.{Ex, Exs, Number, Fact, Read, Local, Not, Negative, Binary, NoMore, More}
use Rattle.bg_ast.specs.Execution.{Interp}
use Rattle.bg_sense.specs.Types.{are_of, key_types_eq, ty_eq}
use Rattle.bg_sense.specs.Typing.{key_ty}
use Rattle.bg_terms.specs.Differing.{differ_at}
use Rattle.bg_sense.specs.Eval.{Scope, value_at, look_up, evs}

-- what makes a term of its arguments: an application, a select, an update, and the part with this number of an index at which two maps differ,
-- of maps with these index types and this result type
pub data Head : Type 0 where
  Applies : ℕ → Head
  Selects : List KeyType → Ty → Head
  Updates : List KeyType → Ty → Head
  Differs : List KeyType → Ty → ℕ → Head

-- a term: its arguments are expressions over incarnations and earlier terms
pub record Term : Type 0 where
  pub head : Head
  pub args : Exs
  pub ty : Ty

-- what incarnations and terms mean, and no other name
abbrev pub over : List Val → Scope
over w =
    record { functions = λ f args. Num (pos 0); constants = []; globals = []; before = []; frame = w }

-- a map, then an index
abbrev pub selected : List Val → Val
selected [] = Num (pos 0)
selected (m ∷ ks) = select m (map number_of ks)

-- a map, then the new value, then an index
abbrev pub updated : List Val → Val
updated [] = Num (pos 0)
updated (m ∷ []) = m
updated (m ∷ v ∷ ks) = update m (map number_of ks) v

-- a value of an index type
abbrev pub key_value : KeyType → ℤ → Val
key_value IntKey z = Num z
key_value (UserKey u) z = Element u z

-- a part of an index
abbrev pub part : List KeyType → List ℤ → ℕ → Val
part [] zs j = Num (pos 0)
part (k ∷ ks) [] j = Num (pos 0)
part (k ∷ ks) (z ∷ zs) zero = key_value k z
part (k ∷ ks) (z ∷ zs) (suc j) = part ks zs j

abbrev pub differing : List KeyType → ℕ → List Val → Val
differing ks j (m ∷ n ∷ vs) = part ks (differ_at ks m n) j
differing ks j _ = Num (pos 0)

-- what a head makes of values under an interpretation
abbrev pub mean : Interp → Head → List Val → Val
mean i (Applies f) vs = look_up (slice_get i.tables f) vs
mean i (Selects ks t) vs = selected vs
mean i (Updates ks t) vs = updated vs
mean i (Differs ks t j) vs = differing ks j vs

abbrev pub term_value : Interp → List Val → Term → Val
term_value i w t = mean i t.head (evs t.args (over w))

-- the terms, of which the first one has number n, have their values
abbrev pub IsModel : Interp → List Val → ℕ → List Term → Type 0
IsModel i w n [] = Unit {0}
IsModel i w n (t ∷ ts) = (value_at w n ≡ term_value i w t) × IsModel i w (suc n) ts

-- the values of the incarnations with those of the terms behind them
abbrev pub extended : Interp → List Term → List Val → List Val
extended i [] w = w
extended i (t ∷ ts) w = extended i ts (w ++ (term_value i w t ∷ []))

abbrev mutual
  -- an expression over the first n incarnations and terms
  pub is_below : ℕ → Ex → Bool
  is_below n (Number z) = true
  is_below n (Fact b) = true
  is_below n (Read (Local j)) = nat_lt j n
  is_below n (Not e) = is_below n e
  is_below n (Negative e) = is_below n e
  is_below n (Binary op a b) = is_below n a && is_below n b
  is_below n _ = false

  pub are_below : ℕ → Exs → Bool
  are_below n NoMore = true
  are_below n (More e es) = is_below n e && are_below n es

-- the arguments of each term are over incarnations and earlier terms
abbrev pub are_in_order : ℕ → List Term → Bool
are_in_order n [] = true
are_in_order n (t ∷ ts) = are_below n t.args && are_in_order (suc n) ts

abbrev pub head_eq : Head → Head → Bool
head_eq (Applies f) (Applies g) = f == g
head_eq (Selects ks t) (Selects ls u) = key_types_eq ks ls && ty_eq t u
head_eq (Updates ks t) (Updates ls u) = key_types_eq ks ls && ty_eq t u
head_eq (Differs ks t j) (Differs ls u k) = (key_types_eq ks ls && ty_eq t u) && j == k
head_eq _ _ = false

-- whether values are arguments of a head's types
abbrev pub args_fit : Head → List Val → Bool
args_fit (Applies f) vs = true
args_fit (Selects ks t) (m ∷ qs) = is_of (MapTy ks t) m && are_of (map key_ty ks) qs
args_fit (Updates ks t) (m ∷ v ∷ qs) = is_of (MapTy ks t) m && (is_of t v && are_of (map key_ty ks) qs)
args_fit (Differs ks t j) (m ∷ n ∷ []) = is_of (MapTy ks t) m && is_of (MapTy ks t) n
args_fit _ _ = false

-- the arguments of each term are of its head's types
abbrev pub Fit : List Val → List Term → Type 0
Fit w ts = (a : ℕ) (t : Term) → slice_get ts a ≡ Some t → args_fit t.head (evs t.args (over w)) ≡ true
