-- Over scalars maps and parts of an index are numbers.
use Rattle.std.proofs.Common.{◌≡◌, ℕ, ◌+◌, true, List, [], ◌∷◌, length, map, Some, refl, sym, ap, ◌∙◌, subst, arith}
use Rattle.std.specs.Prelude.{slice_get, ℤ, ◌&&◌, ◌==◌}
use Rattle.std.specs.Ordering.{int_eq}
use Rattle.std.proofs.lemmas.Bool.{eq-eqb}
use Rattle.bg_ast.specs.Values.{Val, Ty, IntTy, BoolTy, MapTy, KeyType, IntKey, UserKey, is_of, number_of, takes_parts}
use Rattle.bg_ast.specs.Syntax.{Ex, Exs, Op, And, Or, Implies, Iff, Equal, Unequal, Less, AtMost, Greater, AtLeast, Plus, Minus, Times, Number, Fact, Constant, Read, Local, Global, Not, Negative, Binary, Apply, Select, Update, Old, NoMore, More, Fun}
use Rattle.bg_sense.specs.Eval.{value_at, ev, evs, operate}
use Rattle.bg_sense.specs.Types.{are_of}
use Rattle.bg_sense.specs.Typing.{key_ty, OpHasType}
use Rattle.bg_sense.proofs.Bools.{and_left, and_right, both}
use Rattle.bg_sense.proofs.Keys.{int_eq_same}
use Rattle.bg_terms.specs.Terms.{Selects, Updates, Term, over, head_eq}
use Rattle.bg_terms.specs.Alike.{HasFlatType, scalar_ty}
use Rattle.bg_terms.specs.Typed.{HaveFlatTypes, HeadHasType, type_of, types_with, TermsTyped}
use Rattle.bg_terms.specs.Built.{map_number, index_of, selects_from}
use Rattle.bg_terms.specs.Closed.{IsSelected}
use Rattle.bg_terms.proofs.Closed.{ints_same}
use Rattle.bg_terms.proofs.Heads.{head_same, head_refl}
use Rattle.bg_terms.proofs.Typed.{at_back, at_map}
use Rattle.bg_wanted.specs.Settled.{HasSelect}

int_bool : (t : Ty) → t ≡ IntTy → t ≡ BoolTy → ⊥
int_bool t h e = let q : IntTy ≡ BoolTy = sym h ∙ e in cc

bool_int : (t : Ty) → t ≡ BoolTy → scalar_ty t ≡ IntTy → ⊥
bool_int t h e = let q : BoolTy ≡ IntTy = sym (ap scalar_ty h) ∙ e in cc

-- what an operator makes that is no truth is a number
int_op : (op : Op) (A B : Ty → Type 0) (v w : Val) (t : Ty) → OpHasType op A B t → scalar_ty t ≡ IntTy → is_of IntTy (operate op v w) ≡ true
int_op And A B v w t h e = absurd (bool_int t h.0 e)
int_op Or A B v w t h e = absurd (bool_int t h.0 e)
int_op Implies A B v w t h e = absurd (bool_int t h.0 e)
int_op Iff A B v w t h e = absurd (bool_int t h.0 e)
int_op Equal A B v w t h e = absurd (bool_int t h.0 e)
int_op Unequal A B v w t h e = absurd (bool_int t h.0 e)
int_op Less A B v w t h e = absurd (bool_int t h.0 e)
int_op AtMost A B v w t h e = absurd (bool_int t h.0 e)
int_op Greater A B v w t h e = absurd (bool_int t h.0 e)
int_op AtLeast A B v w t h e = absurd (bool_int t h.0 e)
int_op Plus A B v w t h e = refl
int_op Minus A B v w t h e = refl
int_op Times A B v w t h e = refl

key_scalar : (k : KeyType) → scalar_ty (key_ty k) ≡ IntTy
key_scalar IntKey = refl
key_scalar (UserKey u) = refl

pub int_lists : (ks : List KeyType) (vs ws : List Val) → are_of (map (λ k. IntTy) ks) vs ≡ true → are_of (map (λ k. IntTy) ks) ws ≡ true → map number_of vs ≡ map number_of ws → vs ≡ ws
int_lists [] [] [] h g e = refl
int_lists [] [] (w ∷ ws) h g e = absurd (let bad : ⊥ = cc in bad)
int_lists [] (v ∷ vs) ws h g e = absurd (let bad : ⊥ = cc in bad)
int_lists (k ∷ ks) [] ws h g e = absurd (let bad : ⊥ = cc in bad)
int_lists (k ∷ ks) (v ∷ vs) [] h g e = absurd (let bad : ⊥ = cc in bad)
int_lists (k ∷ ks) (v ∷ vs) (w ∷ ws) h g e =
    let first : number_of v ≡ number_of w = cc in
    let rest : map number_of vs ≡ map number_of ws = cc in
    ap (λ x. x ∷ vs) (ints_same v w (and_left (is_of IntTy v) (are_of (map (λ l. IntTy) ks) vs) h) (and_left (is_of IntTy w) (are_of (map (λ l. IntTy) ks) ws) g) first)
    ∙ ap (λ xs. w ∷ xs) (int_lists ks vs ws (and_right (is_of IntTy v) (are_of (map (λ l. IntTy) ks) vs) h) (and_right (is_of IntTy w) (are_of (map (λ l. IntTy) ks) ws) g) rest)

lengths : (ks : List KeyType) (vs : List Val) → are_of (map (λ k. IntTy) ks) vs ≡ true → length ks ≡ length (map number_of vs)
lengths [] [] h = refl
lengths [] (v ∷ vs) h = absurd (let bad : ⊥ = cc in bad)
lengths (k ∷ ks) [] h = absurd (let bad : ⊥ = cc in bad)
lengths (k ∷ ks) (v ∷ vs) h =
    let e = lengths ks vs (and_right (is_of IntTy v) (are_of (map (λ l. IntTy) ks) vs) h) in omega (arith, e)

int_refl : (z : ℤ) → int_eq z z ≡ true
int_refl z = grind arith

int_eq_of : (x y : ℤ) → x ≡ y → int_eq x y ≡ true
int_eq_of x y e = subst (λ z. int_eq x z ≡ true) e (int_refl x)

-- the arguments of a select by their values
pub args_read : (s : List Val) (xs : Exs) (x : Val) (k : List Val) → evs xs (over s) ≡ x ∷ k → (map_number s xs ≡ number_of x) × (index_of s xs ≡ map number_of k)
args_read s NoMore x k e = absurd (let bad : ⊥ = cc in bad)
args_read s (More y ys) x k e =
    let first : ev y (over s) ≡ x = cc in
    let rest : evs ys (over s) ≡ k = cc in
    (ap number_of first, ap (map number_of) rest)

module _ (fs : List Fun) (incs : List Ty) (ts : List Term) (terms : TermsTyped fs incs ts) (s : List Val) (typed : (j : ℕ) (t : Ty) → slice_get (types_with incs ts) j ≡ Some t → is_of (scalar_ty t) (value_at s j) ≡ true) where
  abbrev tys : List Ty
  tys = types_with incs ts

  abbrev n : ℕ
  n = length incs

  pub term_type : (a : ℕ) (u : Term) → slice_get ts a ≡ Some u → slice_get tys (n + a) ≡ Some u.ty
  term_type a u e = at_back incs (map type_of ts) a n refl ∙ at_map type_of ts a u e

  -- an argument that is a key or a map is worth a number
  pub numeric : (x : Ex) (t : Ty) → HasFlatType tys x t → scalar_ty t ≡ IntTy → is_of IntTy (ev x (over s)) ≡ true
  numeric (Number z) t h e = refl
  numeric (Fact b) t h e = absurd (bool_int t h e)
  numeric (Constant k) t h e = absurd h
  numeric (Read (Local j)) t h e = subst (λ u. is_of u (value_at s j) ≡ true) e (typed j t h)
  numeric (Read (Global j)) t h e = absurd h
  numeric (Not x) t h e = absurd (bool_int t h.0 e)
  numeric (Negative x) t h e = refl
  numeric (Binary op x y) t h e =
      int_op op (HasFlatType tys x) (HasFlatType tys y) (ev x (over s)) (ev y (over s)) t h e
  numeric (Apply f es) t h e = absurd h
  numeric (Select m es) t h e = absurd h
  numeric (Update m es x) t h e = absurd h
  numeric (Old x) t h e = absurd h

  pub numerics : (xs : Exs) (ks : List KeyType) → HaveFlatTypes tys xs (map key_ty ks) → are_of (map (λ k. IntTy) ks) (evs xs (over s)) ≡ true
  numerics NoMore [] h = refl
  numerics NoMore (k ∷ ks) h = absurd (let bad : ⊥ = cc in bad)
  numerics (More x xs) [] h = absurd h
  numerics (More x xs) (k ∷ ks) h =
      both (is_of IntTy (ev x (over s))) (are_of (map (λ l. IntTy) ks) (evs xs (over s))) (numeric x (key_ty k) h.0 (key_scalar k)) (numerics xs ks h.1)

  pub select_args : (ks : List KeyType) (t : Ty) (a : ℕ) (b : Term) → slice_get ts a ≡ Some b → b.head ≡ Selects ks t → (b.ty ≡ t) × HaveFlatTypes tys b.args (MapTy ks t ∷ map key_ty ks)
  select_args ks t a b e h = subst (λ k. HeadHasType fs tys k b.args b.ty) h (terms a b e)

  pub update_args : (ks : List KeyType) (t : Ty) (a : ℕ) (b : Term) → slice_get ts a ≡ Some b → b.head ≡ Updates ks t → (b.ty ≡ MapTy ks t) × HaveFlatTypes tys b.args (MapTy ks t ∷ t ∷ map key_ty ks)
  update_args ks t a b e h = subst (λ k. HeadHasType fs tys k b.args b.ty) h (terms a b e)

  -- what an update is worth is a number
  pub update_numeric : (ks : List KeyType) (t : Ty) (a : ℕ) (b : Term) → slice_get ts a ≡ Some b → b.head ≡ Updates ks t → is_of IntTy (value_at s (n + a)) ≡ true
  update_numeric ks t a b e h =
      typed (n + a) (MapTy ks t) (term_type a b e ∙ ap (λ u. Some u) (update_args ks t a b e h).0)

  -- ---- selects by numbers, and by values

  -- the values of a select's arguments
  pub record ArgsAre (ks : List KeyType) (b : Term) : Type 0 where
    pub a_map : Val
    pub index : List Val
    pub are : evs b.args (over s) ≡ a_map ∷ index
    pub number : is_of IntTy a_map ≡ true
    pub numbers : are_of (map (λ k. IntTy) ks) index ≡ true

  args_listed : (ks : List KeyType) (t : Ty) (b : Term) (xs : Exs) → b.args ≡ xs → HaveFlatTypes tys xs (MapTy ks t ∷ map key_ty ks) → ArgsAre ks b
  args_listed ks t b NoMore e h = absurd (let bad : ⊥ = cc in bad)
  args_listed ks t b (More x xs) e h =
      record {
        a_map = ev x (over s);
        index = evs xs (over s);
        are = ap (λ ys. evs ys (over s)) e;
        number = numeric x (MapTy ks t) h.0 refl;
        numbers = numerics xs ks h.1;
      }

  pub args_are : (ks : List KeyType) (t : Ty) (a : ℕ) (b : Term) → slice_get ts a ≡ Some b → b.head ≡ Selects ks t → ArgsAre ks b
  args_are ks t a b e h = args_listed ks t b b.args refl (select_args ks t a b e h).1

  -- a select by values is one by numbers
  pub selects_it : (ks : List KeyType) (t : Ty) (a : ℕ) (b : Term) → slice_get ts a ≡ Some b → b.head ≡ Selects ks t → (x : Val) (k : List Val) → evs b.args (over s) ≡ x ∷ k → selects_from s ks t (number_of x) b ≡ true
  selects_it ks t a b e h x k args =
      let are = args_are ks t a b e h in
      let read = args_read s b.args x k args in
      let same : map number_of are.index ≡ map number_of k = sym (args_read s b.args are.a_map are.index are.are).1 ∙ read.1 in
      both (head_eq b.head (Selects ks t)) (int_eq (map_number s b.args) (number_of x) && takes_parts (MapTy ks t) (length (index_of s b.args))) (head_refl b.head (Selects ks t) h)
      (both (int_eq (map_number s b.args) (number_of x)) (takes_parts (MapTy ks t) (length (index_of s b.args))) (int_eq_of (map_number s b.args) (number_of x) read.0)
      (ap (λ l. length ks == length l) read.1 ∙ eq-eqb (length ks) (length (map number_of k)) (lengths ks are.index are.numbers ∙ ap length same)))

  pub selected : (ks : List KeyType) (t : Ty) (x : Val) (k : List Val) (v : Val) → HasSelect s n ts ks t (x ∷ k) v → IsSelected s ts ks t (number_of x) (map number_of k)
  selected ks t x k v h =
      record {
        number = h.number;
        term = h.term;
        is_there = h.is_there;
        selects = selects_it ks t h.number h.term h.is_there h.selects x k h.arguments;
        index = (args_read s h.term.args x k h.arguments).1;
      }

  pub selects_head : (ks : List KeyType) (t : Ty) (z : ℤ) (b : Term) → selects_from s ks t z b ≡ true → b.head ≡ Selects ks t
  selects_head ks t z b h =
      head_same b.head (Selects ks t) (and_left (head_eq b.head (Selects ks t)) (int_eq (map_number s b.args) z && takes_parts (MapTy ks t) (length (index_of s b.args))) h)

  pub selects_number : (ks : List KeyType) (t : Ty) (z : ℤ) (b : Term) → selects_from s ks t z b ≡ true → map_number s b.args ≡ z
  selects_number ks t z b h =
      int_eq_same (map_number s b.args) z (and_left (int_eq (map_number s b.args) z) (takes_parts (MapTy ks t) (length (index_of s b.args))) (and_right (head_eq b.head (Selects ks t)) (int_eq (map_number s b.args) z && takes_parts (MapTy ks t) (length (index_of s b.args))) h))

  -- one by numbers is one by values, where these are numbers
  pub selected_back : (ks : List KeyType) (t : Ty) (x : Val) (k : List Val) → is_of IntTy x ≡ true → are_of (map (λ l. IntTy) ks) k ≡ true → (is : IsSelected s ts ks t (number_of x) (map number_of k)) → HasSelect s n ts ks t (x ∷ k) (value_at s (n + is.number))
  selected_back ks t x k o os is =
      let head = selects_head ks t (number_of x) is.term is.selects in
      let are = args_are ks t is.number is.term is.is_there head in
      let read = args_read s is.term.args are.a_map are.index are.are in
      record {
        number = is.number;
        term = is.term;
        is_there = is.is_there;
        selects = head;
        arguments =
            are.are
            ∙ (ap (λ v. v ∷ are.index) (ints_same are.a_map x are.number o (sym read.0 ∙ selects_number ks t (number_of x) is.term is.selects))
            ∙ ap (λ l. x ∷ l) (int_lists ks are.index k are.numbers os (sym read.1 ∙ is.index)));
        worth = refl;
      }
