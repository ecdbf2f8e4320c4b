-- At a leaf that is finished the built values are a model, and the scalars stand for them.
use Rattle.std.proofs.Common.{◌≡◌, ℕ, zero, suc, ◌+◌, Bool, true, false, List, [], ◌∷◌, length, map, Option, Some, refl, sym, ap, ◌∙◌, subst, arith}
use Rattle.std.specs.Prelude.{slice_get, ℤ, not, ◌&&◌, ◌||◌, ◌==◌, if◌then◌else◌}
use Rattle.std.specs.Ordering.{int_eq}
use Rattle.std.proofs.lemmas.Bool.{eq-eqb}
use Rattle.bg_ast.specs.Values.{Val, Num, Truth, Element, Default, Entry, Ty, IntTy, BoolTy, UserTy, MapTy, KeyType, IntKey, UserKey, is_of, number_of, truth_of, keys_eq, val_eq, select, update, takes_parts}
use Rattle.bg_ast.specs.Syntax.{Ex, Exs, Op, Or, Iff, Unequal, Less, AtMost, Greater, AtLeast, Plus, Minus, Times, Number, Fact, Constant, Read, Local, Global, Not, Negative, Binary, Apply, Select, Update, Old, NoMore, More, Fun, Implies, And, Equal}
use Rattle.bg_ast.specs.Execution.{Interp}
use Rattle.bg_sense.specs.Eval.{value_at, ev, evs, operate, entry_for}
use Rattle.bg_sense.specs.Types.{are_of}
use Rattle.bg_sense.specs.Typing.{key_ty, OpHasType}
use Rattle.bg_sense.proofs.Bools.{and_left, and_right, both}
use Rattle.bg_sense.proofs.Keys.{keys_same, keys_eq_refl, int_eq_same}
use Rattle.bg_sense.proofs.MapLaws.{val_same}
use Rattle.bg_terms.specs.Terms.{Head, Applies, Selects, Updates, Differs, Term, over, mean, term_value, head_eq}
use Rattle.bg_terms.specs.Instances.{term, equal, all_equal, congruent, at_index_of, at_index, elsewhere_of, elsewhere, accesses}
use Rattle.bg_terms.specs.Alike.{HasFlatType, StandFor, is_scalar, scalar_ty}
use Rattle.bg_terms.specs.Typed.{HaveFlatTypes, HeadHasType, type_of, types_with, TermsTyped}
use Rattle.bg_terms.specs.Built.{map_number, index_of, selects_from, seen, built, given, agree_but}
use Rattle.bg_terms.specs.Closed.{IsSelected, IsClosed, IsFinished, is_differs}
use Rattle.bg_terms.specs.Tables.{entries_of, IsReadOff}
use Rattle.bg_terms.proofs.Heads.{head_same, head_refl, kinds_refl}
use Rattle.bg_terms.proofs.True.{equal_alike, equal_back, same_eq, false_unless}
use Rattle.bg_terms.proofs.Built.{built_typed, filled_gives, update_right}
use Rattle.bg_terms.proofs.Typed.{at_back, at_map}
use Rattle.bg_terms.proofs.Same.{reads, says_same}
use Rattle.bg_terms.proofs.Same as same_laws
use Rattle.bg_terms.proofs.Tabled.{first}

pub no_true : (b : Bool) → b ≡ false → b ≡ true → ⊥
no_true b e f = cc

one_some : {A : Type 0} → (o : Option A) (x y : A) → o ≡ Some x → o ≡ Some y → x ≡ y
one_some o x y e f = cc

int_bool : (t : Ty) → t ≡ IntTy → t ≡ BoolTy → ⊥
int_bool t h e = let q : IntTy ≡ BoolTy = sym h ∙ e in cc

bool_int : (t : Ty) → t ≡ BoolTy → scalar_ty t ≡ IntTy → ⊥
bool_int t h e = let q : BoolTy ≡ IntTy = sym (ap scalar_ty h) ∙ e in cc

pub int_of : (v : Val) → is_of IntTy v ≡ true → v ≡ Num (number_of v)
int_of (Num z) h = refl
int_of (Truth b) h = absurd (let bad : ⊥ = cc in bad)
int_of (Element t z) h = absurd (let bad : ⊥ = cc in bad)
int_of (Default d) h = absurd (let bad : ⊥ = cc in bad)
int_of (Entry k v m) h = absurd (let bad : ⊥ = cc in bad)

pub bool_of : (v : Val) → is_of BoolTy v ≡ true → v ≡ Truth (truth_of v)
bool_of (Num z) h = absurd (let bad : ⊥ = cc in bad)
bool_of (Truth b) h = refl
bool_of (Element t z) h = absurd (let bad : ⊥ = cc in bad)
bool_of (Default d) h = absurd (let bad : ⊥ = cc in bad)
bool_of (Entry k v m) h = absurd (let bad : ⊥ = cc in bad)

pub ints_same : (v w : Val) → is_of IntTy v ≡ true → is_of IntTy w ≡ true → number_of v ≡ number_of w → v ≡ w
ints_same v w h g e = int_of v h ∙ ap Num e ∙ sym (int_of w g)

int_refl : (z : ℤ) → int_eq z z ≡ true
int_refl z = grind arith

int_eq_of : (x y : ℤ) → x ≡ y → int_eq x y ≡ true
int_eq_of x y e = subst (λ z. int_eq x z ≡ true) e (int_refl x)

-- the first select from a map at an index
record FirstSeen (s : List Val) (ks : List KeyType) (t : Ty) (z : ℤ) (q : List ℤ) (m : ℕ) (us : List Term) (v : Val) : Type 0 where
  number : ℕ
  its : Term
  is_there : slice_get us number ≡ Some its
  selects : selects_from s ks t z its ≡ true
  index : index_of s its.args ≡ q
  value : v ≡ value_at s (m + number)

seen_later : (s : List Val) (ks : List KeyType) (t : Ty) (z : ℤ) (q : List ℤ) (m : ℕ) (u : Term) (us : List Term) (v : Val) → FirstSeen s ks t z q (suc m) us v → FirstSeen s ks t z q m (u ∷ us) v
seen_later s ks t z q m u us v f =
    record {
      number = suc f.number;
      its = f.its;
      is_there = f.is_there;
      selects = f.selects;
      index = f.index;
      value = f.value ∙ ap (value_at s) (let e : suc m + f.number ≡ m + suc f.number = omega arith in e);
    }

seen_first : (s : List Val) (ks : List KeyType) (t : Ty) (z : ℤ) (q : List ℤ) (m : ℕ) (us : List Term) (v : Val) → seen s ks t z q m us ≡ Some v → FirstSeen s ks t z q m us v
seen_first s ks t z q m [] v e = absurd (let bad : ⊥ = cc in bad)
seen_first s ks t z q m (u ∷ us) v e =
    on (selects_from s ks t z u) (keys_eq (index_of s u.args) q) refl refl e (λ g. seen_first s ks t z q (suc m) us v g)
  where
    on : (b c : Bool) → selects_from s ks t z u ≡ b → keys_eq (index_of s u.args) q ≡ c → (if b && c then Some (value_at s m) else seen s ks t z q (suc m) us) ≡ Some v → (seen s ks t z q (suc m) us ≡ Some v → FirstSeen s ks t z q (suc m) us v) → FirstSeen s ks t z q m (u ∷ us) v
    on true true f g h rest =
        let same : value_at s m ≡ v = cc in
        record {
          number = 0;
          its = u;
          is_there = refl;
          selects = f;
          index = keys_same (index_of s u.args) q g;
          value = sym same ∙ ap (value_at s) (let x : m ≡ m + 0 = omega arith in x);
        }
    on true false f g h rest = seen_later s ks t z q m u us v (rest h)
    on false c f g h rest = seen_later s ks t z q m u us v (rest h)

-- where a select is there, something is seen
seen_some : (s : List Val) (ks : List KeyType) (t : Ty) (z : ℤ) (q : List ℤ) (m : ℕ) (us : List Term) (a : ℕ) (b : Term) → slice_get us a ≡ Some b → selects_from s ks t z b ≡ true → index_of s b.args ≡ q → (v : Val) × (seen s ks t z q m us ≡ Some v)
seen_some s ks t z q m [] a b e f g = absurd (let bad : ⊥ = cc in bad)
seen_some s ks t z q m (u ∷ us) zero b e f g =
    let same : u ≡ b = cc in
    (value_at s m, here (selects_from s ks t z u && keys_eq (index_of s u.args) q) (both (selects_from s ks t z u) (keys_eq (index_of s u.args) q) (ap (selects_from s ks t z) same ∙ f) (ap (λ x. keys_eq (index_of s x.args) q) same ∙ ap (λ k. keys_eq k q) g ∙ keys_eq_refl q)))
  where
    here : (c : Bool) → c ≡ true → (if c then Some (value_at s m) else seen s ks t z q (suc m) us) ≡ Some (value_at s m)
    here true h = refl
    here false h = absurd (let bad : ⊥ = cc in bad)
seen_some s ks t z q m (u ∷ us) (suc a) b e f g =
    on (selects_from s ks t z u && keys_eq (index_of s u.args) q) (seen_some s ks t z q (suc m) us a b e f g)
  where
    on : (c : Bool) → ((v : Val) × (seen s ks t z q (suc m) us ≡ Some v)) → (v : Val) × ((if c then Some (value_at s m) else seen s ks t z q (suc m) us) ≡ Some v)
    on true r = (value_at s m, refl)
    on false r = r

-- what an operator makes that is no truth is a number
int_op : (op : Op) (A B : Ty → Type 0) (v w : Val) (t : Ty) → OpHasType op A B t → scalar_ty t ≡ IntTy → is_of IntTy (operate op v w) ≡ true
int_op And A B v w t h e = absurd (bool_int t h.0 e)
int_op Or A B v w t h e = absurd (bool_int t h.0 e)
int_op Implies A B v w t h e = absurd (bool_int t h.0 e)
int_op Iff A B v w t h e = absurd (bool_int t h.0 e)
int_op Equal A B v w t h e = absurd (bool_int t h.0 e)
int_op Unequal A B v w t h e = absurd (bool_int t h.0 e)
int_op Less A B v w t h e = absurd (bool_int t h.0 e)
int_op AtMost A B v w t h e = absurd (bool_int t h.0 e)
int_op Greater A B v w t h e = absurd (bool_int t h.0 e)
int_op AtLeast A B v w t h e = absurd (bool_int t h.0 e)
int_op Plus A B v w t h e = refl
int_op Minus A B v w t h e = refl
int_op Times A B v w t h e = refl

bool_op : (op : Op) (A B : Ty → Type 0) (v w : Val) (t : Ty) → OpHasType op A B t → t ≡ BoolTy → is_of BoolTy (operate op v w) ≡ true
bool_op And A B v w t h e = refl
bool_op Or A B v w t h e = refl
bool_op Implies A B v w t h e = refl
bool_op Iff A B v w t h e = refl
bool_op Equal A B v w t h e = refl
bool_op Unequal A B v w t h e = refl
bool_op Less A B v w t h e = refl
bool_op AtMost A B v w t h e = refl
bool_op Greater A B v w t h e = refl
bool_op AtLeast A B v w t h e = refl
bool_op Plus A B v w t h e = absurd (int_bool t h.0 e)
bool_op Minus A B v w t h e = absurd (int_bool t h.0 e)
bool_op Times A B v w t h e = absurd (int_bool t h.0 e)

key_scalar : (k : KeyType) → scalar_ty (key_ty k) ≡ IntTy
key_scalar IntKey = refl
key_scalar (UserKey u) = refl

int_lists : (ks : List KeyType) (vs ws : List Val) → are_of (map (λ k. IntTy) ks) vs ≡ true → are_of (map (λ k. IntTy) ks) ws ≡ true → map number_of vs ≡ map number_of ws → vs ≡ ws
int_lists [] [] [] h g e = refl
int_lists [] [] (w ∷ ws) h g e = absurd (let bad : ⊥ = cc in bad)
int_lists [] (v ∷ vs) ws h g e = absurd (let bad : ⊥ = cc in bad)
int_lists (k ∷ ks) [] ws h g e = absurd (let bad : ⊥ = cc in bad)
int_lists (k ∷ ks) (v ∷ vs) [] h g e = absurd (let bad : ⊥ = cc in bad)
int_lists (k ∷ ks) (v ∷ vs) (w ∷ ws) h g e =
    let first : number_of v ≡ number_of w = cc in
    let rest : map number_of vs ≡ map number_of ws = cc in
    ap (λ x. x ∷ vs) (ints_same v w (and_left (is_of IntTy v) (are_of (map (λ l. IntTy) ks) vs) h) (and_left (is_of IntTy w) (are_of (map (λ l. IntTy) ks) ws) g) first)
    ∙ ap (λ xs. w ∷ xs) (int_lists ks vs ws (and_right (is_of IntTy v) (are_of (map (λ l. IntTy) ks) vs) h) (and_right (is_of IntTy w) (are_of (map (λ l. IntTy) ks) ws) g) rest)

implied : (a b : Bool) → a ≡ true → (not a || b) ≡ true → b ≡ true
implied true b e h = h
implied false b e h = absurd (let bad : ⊥ = cc in bad)

module _ (functions : List Fun) (incs : List Ty) (n : ℕ) (ts : List Term) (count : n ≡ length incs) (terms : TermsTyped functions incs ts) (s : List Val) (typed : (j : ℕ) (t : Ty) → slice_get (types_with incs ts) j ≡ Some t → is_of (scalar_ty t) (value_at s j) ≡ true) (done : IsFinished s n ts (types_with incs ts)) where
  abbrev tys : List Ty
  tys = types_with incs ts

  abbrev build : Ty → Val → Val
  build = built s n ts

  term_at_type : (a : ℕ) (u : Term) → slice_get ts a ≡ Some u → slice_get tys (n + a) ≡ Some u.ty
  term_at_type a u e = at_back incs (map type_of ts) a n count ∙ at_map type_of ts a u e

  -- ---- expressions over scalars

  -- an argument that is a key or a map is worth a number
  numeric : (x : Ex) (t : Ty) → HasFlatType tys x t → scalar_ty t ≡ IntTy → is_of IntTy (ev x (over s)) ≡ true
  numeric (Number z) t h e = refl
  numeric (Fact b) t h e = absurd (bool_int t h e)
  numeric (Constant k) t h e = absurd h
  numeric (Read (Local j)) t h e = subst (λ u. is_of u (value_at s j) ≡ true) e (typed j t h)
  numeric (Read (Global j)) t h e = absurd h
  numeric (Not x) t h e = absurd (bool_int t h.0 e)
  numeric (Negative x) t h e = refl
  numeric (Binary op x y) t h e =
      int_op op (HasFlatType tys x) (HasFlatType tys y) (ev x (over s)) (ev y (over s)) t h e
  numeric (Apply f es) t h e = absurd h
  numeric (Select m es) t h e = absurd h
  numeric (Update m es x) t h e = absurd h
  numeric (Old x) t h e = absurd h

  numerics : (xs : Exs) (ks : List KeyType) → HaveFlatTypes tys xs (map key_ty ks) → are_of (map (λ k. IntTy) ks) (evs xs (over s)) ≡ true
  numerics NoMore [] h = refl
  numerics NoMore (k ∷ ks) h = absurd (let bad : ⊥ = cc in bad)
  numerics (More x xs) [] h = absurd h
  numerics (More x xs) (k ∷ ks) h =
      both (is_of IntTy (ev x (over s))) (are_of (map (λ l. IntTy) ks) (evs xs (over s))) (numeric x (key_ty k) h.0 (key_scalar k)) (numerics xs ks h.1)

  -- an argument list of a select: its map's number and its index say all
  args_same : (ks : List KeyType) (t : Ty) (xs ys : Exs) → HaveFlatTypes tys xs (MapTy ks t ∷ map key_ty ks) → HaveFlatTypes tys ys (MapTy ks t ∷ map key_ty ks) → map_number s xs ≡ map_number s ys → index_of s xs ≡ index_of s ys → evs xs (over s) ≡ evs ys (over s)
  args_same ks t NoMore ys h g e f = absurd (let bad : ⊥ = cc in bad)
  args_same ks t (More x xs) NoMore h g e f = absurd (let bad : ⊥ = cc in bad)
  args_same ks t (More x xs) (More y ys) h g e f =
      ap (λ v. v ∷ evs xs (over s)) (ints_same (ev x (over s)) (ev y (over s)) (numeric x (MapTy ks t) h.0 refl) (numeric y (MapTy ks t) g.0 refl) e)
      ∙ ap (λ vs. ev y (over s) ∷ vs) (int_lists ks (evs xs (over s)) (evs ys (over s)) (numerics xs ks h.1) (numerics ys ks g.1) f)

  head_of : (ks : List KeyType) (t : Ty) (z : ℤ) (b : Term) → selects_from s ks t z b ≡ true → b.head ≡ Selects ks t
  head_of ks t z b h =
      head_same b.head (Selects ks t) (and_left (head_eq b.head (Selects ks t)) (int_eq (map_number s b.args) z && takes_parts (MapTy ks t) (length (index_of s b.args))) h)

  number_at : (ks : List KeyType) (t : Ty) (z : ℤ) (b : Term) → selects_from s ks t z b ≡ true → map_number s b.args ≡ z
  number_at ks t z b h =
      int_eq_same (map_number s b.args) z (and_left (int_eq (map_number s b.args) z) (takes_parts (MapTy ks t) (length (index_of s b.args))) (and_right (head_eq b.head (Selects ks t)) (int_eq (map_number s b.args) z && takes_parts (MapTy ks t) (length (index_of s b.args))) h))

  select_args : (ks : List KeyType) (t : Ty) (a : ℕ) (b : Term) → slice_get ts a ≡ Some b → b.head ≡ Selects ks t → (b.ty ≡ t) × HaveFlatTypes tys b.args (MapTy ks t ∷ map key_ty ks)
  select_args ks t a b e h = subst (λ k. HeadHasType functions tys k b.args b.ty) h (terms a b e)

  -- what congruence says of two selects
  congruent_selects : (ks : List KeyType) (t : Ty) (z : ℤ) (a b : ℕ) (u v : Term) → slice_get ts a ≡ Some u → slice_get ts b ≡ Some v → selects_from s ks t z u ≡ true → selects_from s ks t z v ≡ true → index_of s u.args ≡ index_of s v.args → value_at s (n + a) ≡ value_at s (n + b)
  congruent_selects ks t z a b u v e f g h i =
      let hu = head_of ks t z u g in
      let hv = head_of ks t z v h in
      let args = args_same ks t u.args v.args (select_args ks t a u e hu).1 (select_args ks t b v f hv).1 (number_at ks t z u g ∙ sym (number_at ks t z v h)) i in
      val_same (value_at s (n + a)) (value_at s (n + b)) (told a b u v e f (hu ∙ sym hv) args)
    where
      told : (a b : ℕ) (u v : Term) → slice_get ts a ≡ Some u → slice_get ts b ≡ Some v → u.head ≡ v.head → evs u.args (over s) ≡ evs v.args (over s) → val_eq (value_at s (n + a)) (value_at s (n + b)) ≡ true
      told a b u v e f h args = on (head_eq u.head v.head) (head_refl u.head v.head h) (sym (ap (λ o. truth_of (ev (congruent n a b o (slice_get ts b)) (over s))) e ∙ ap (λ o. truth_of (ev (congruent n a b (Some u) o) (over s))) f) ∙ done.congruent a b)
        where
          on : (c : Bool) → c ≡ true → truth_of (ev (if c then Binary Implies (all_equal u.args v.args) (equal (term n a) (term n b)) else Fact true) (over s)) ≡ true → val_eq (value_at s (n + a)) (value_at s (n + b)) ≡ true
          on true q r = implied (truth_of (ev (all_equal u.args v.args) (over s))) (val_eq (value_at s (n + a)) (value_at s (n + b))) (equal_back s u.args v.args args) r
          on false q r = absurd (let bad : ⊥ = cc in bad)

  -- a select that is there is what is seen
  seen_is : (ks : List KeyType) (t : Ty) (z : ℤ) (q : List ℤ) (is : IsSelected s ts ks t z q) → seen s ks t z q n ts ≡ Some (value_at s (n + is.number))
  seen_is ks t z q is =
      let r = seen_some s ks t z q n ts is.number is.term is.is_there is.selects is.index in
      let f = seen_first s ks t z q n ts r.0 r.1 in
      r.1 ∙ ap (λ v. Some v) (f.value
      ∙ congruent_selects ks t z f.number is.number f.its is.term f.is_there is.is_there f.selects is.selects (f.index ∙ sym is.index))

  -- ---- scalars stand for what is built

  iff_same : (a b : Bool) → (a ≡ true → b ≡ true) → (b ≡ true → a ≡ true) → a ≡ b
  iff_same true b f g = sym (f refl)
  iff_same false true f g = g refl
  iff_same false false f g = refl

  -- where scalars of this type are told apart by what is built, they are compared alike
  alike : (t : Ty) (j k : ℕ) → (build t (value_at s j) ≡ build t (value_at s k) → val_eq (value_at s j) (value_at s k) ≡ true) → val_eq (value_at s j) (value_at s k) ≡ val_eq (build t (value_at s j)) (build t (value_at s k))
  alike t j k f =
      iff_same (val_eq (value_at s j) (value_at s k)) (val_eq (build t (value_at s j)) (build t (value_at s k))) (λ e. same_eq (build t (value_at s j)) (build t (value_at s k)) (ap (build t) (val_same (value_at s j) (value_at s k) e))) (λ e. f (val_same (build t (value_at s j)) (build t (value_at s k)) e))

  num_same : (x y : ℤ) → Num x ≡ Num y → x ≡ y
  num_same x y e = cc

  truth_same : (x y : Bool) → Truth x ≡ Truth y → x ≡ y
  truth_same x y e = cc

  element_same : (u : ℕ) (x y : ℤ) → Element u x ≡ Element u y → x ≡ y
  element_same u x y e = cc

  unless : (b : Bool) → (b ≡ false → ⊥) → b ≡ true
  unless true f = refl
  unless false f = absurd (f refl)

  compared : (t : Ty) (j k : ℕ) → slice_get tys j ≡ Some t → slice_get tys k ≡ Some t → val_eq (value_at s j) (value_at s k) ≡ val_eq (build t (value_at s j)) (build t (value_at s k))
  compared IntTy j k e f =
      alike IntTy j k (λ h. same_eq (value_at s j) (value_at s k) (ints_same (value_at s j) (value_at s k) (typed j IntTy e) (typed k IntTy f) (num_same (number_of (value_at s j)) (number_of (value_at s k)) h)))
  compared BoolTy j k e f =
      alike BoolTy j k (λ h. same_eq (value_at s j) (value_at s k) (bool_of (value_at s j) (typed j BoolTy e)
      ∙ ap Truth (truth_same (truth_of (value_at s j)) (truth_of (value_at s k)) h)
      ∙ sym (bool_of (value_at s k) (typed k BoolTy f))))
  compared (UserTy u) j k e f =
      alike (UserTy u) j k (λ h. same_eq (value_at s j) (value_at s k) (ints_same (value_at s j) (value_at s k) (typed j (UserTy u) e) (typed k (UserTy u) f) (element_same u (number_of (value_at s j)) (number_of (value_at s k)) h)))
  compared (MapTy ks t) j k e f =
      alike (MapTy ks t) j k (λ h. unless (val_eq (value_at s j) (value_at s k)) (λ o. no_true (val_eq (build (MapTy ks t) (value_at s j)) (build (MapTy ks t) (value_at s k))) (done.apart j k ks t e f o) (same_eq (build (MapTy ks t) (value_at s j)) (build (MapTy ks t) (value_at s k)) h)))

  module _ (w : List Val) (values : (j : ℕ) (t : Ty) → slice_get tys j ≡ Some t → value_at w j ≡ build t (value_at s j)) where
    pub stands : StandFor tys w s
    stands =
        record {
          numbers = λ j e. int_of (value_at s j) (typed j IntTy e) ∙ sym (values j IntTy e);
          truths = λ j e. bool_of (value_at s j) (typed j BoolTy e) ∙ sym (values j BoolTy e);
          others =
              λ j k t e f.
              compared t j k e f
              ∙ sym (ap (λ v. val_eq v (value_at w k)) (values j t e) ∙ ap (val_eq (build t (value_at s j))) (values k t f));
        }

    -- a flat expression is worth over the values what is built for its scalar
    scalar_kept : (t : Ty) (v : Val) → is_of (scalar_ty t) v ≡ true → is_scalar t ≡ true → build t v ≡ v
    scalar_kept IntTy v h e = sym (int_of v h)
    scalar_kept BoolTy v h e = sym (bool_of v h)
    scalar_kept (UserTy u) v h e = absurd (let bad : ⊥ = cc in bad)
    scalar_kept (MapTy ks t) v h e = absurd (let bad : ⊥ = cc in bad)

    truthful : (x : Ex) (t : Ty) → HasFlatType tys x t → t ≡ BoolTy → is_of BoolTy (ev x (over s)) ≡ true
    truthful (Number z) t h e = absurd (int_bool t h e)
    truthful (Fact b) t h e = refl
    truthful (Constant k) t h e = absurd h
    truthful (Read (Local j)) t h e =
        subst (λ u. is_of (scalar_ty u) (value_at s j) ≡ true) e (typed j t h)
    truthful (Read (Global j)) t h e = absurd h
    truthful (Not x) t h e = refl
    truthful (Negative x) t h e = absurd (int_bool t h.0 e)
    truthful (Binary op x y) t h e =
        bool_op op (HasFlatType tys x) (HasFlatType tys y) (ev x (over s)) (ev y (over s)) t h e
    truthful (Apply f es) t h e = absurd h
    truthful (Select m es) t h e = absurd h
    truthful (Update m es x) t h e = absurd h
    truthful (Old x) t h e = absurd h

    other_built : (x : Ex) (t : Ty) → HasFlatType tys x t → is_scalar t ≡ false → ev x (over w) ≡ build t (ev x (over s))
    other_built x t h e =
        let r = reads tys w s stands x t h e in
        ap (λ y. ev y (over w)) r.1.0 ∙ values r.0 t r.1.1 ∙ ap (λ y. build t (ev y (over s))) (sym r.1.0)

    ev_built : (x : Ex) (t : Ty) → HasFlatType tys x t → ev x (over w) ≡ build t (ev x (over s))
    ev_built x IntTy h =
        sym (says_same tys w s stands x IntTy h refl) ∙ int_of (ev x (over s)) (numeric x IntTy h refl)
    ev_built x BoolTy h =
        sym (says_same tys w s stands x BoolTy h refl) ∙ bool_of (ev x (over s)) (truthful x BoolTy h refl)
    ev_built x (UserTy u) h = other_built x (UserTy u) h refl
    ev_built x (MapTy ks t) h = other_built x (MapTy ks t) h refl

    key_number : (x : Ex) (k : KeyType) → HasFlatType tys x (key_ty k) → number_of (ev x (over w)) ≡ number_of (ev x (over s))
    key_number x IntKey h = ap number_of (ev_built x IntTy h)
    key_number x (UserKey u) h = ap number_of (ev_built x (UserTy u) h)

    index_same : (qs : Exs) (ks : List KeyType) → HaveFlatTypes tys qs (map key_ty ks) → map number_of (evs qs (over w)) ≡ map number_of (evs qs (over s))
    index_same NoMore ks h = refl
    index_same (More q qs) [] h = absurd h
    index_same (More q qs) (k ∷ ks) h =
        ap (λ z. z ∷ map number_of (evs qs (over w))) (key_number q k h.0)
        ∙ ap (λ zs. number_of (ev q (over s)) ∷ zs) (index_same qs ks h.1)

    index_length : (qs : Exs) (ks : List KeyType) → HaveFlatTypes tys qs (map key_ty ks) → (length ks == length (map number_of (evs qs (over s)))) ≡ true
    index_length qs ks h =
        eq-eqb (length ks) (length (map number_of (evs qs (over s)))) (on qs ks h)
      where
        on : (rs : Exs) (ls : List KeyType) → HaveFlatTypes tys rs (map key_ty ls) → length ls ≡ length (map number_of (evs rs (over s)))
        on NoMore [] g = refl
        on NoMore (l ∷ ls) g = absurd (let bad : ⊥ = cc in bad)
        on (More r rs) [] g = absurd g
        on (More r rs) (l ∷ ls) g = let e = on rs ls g.1 in omega arith

    -- a select that is one of the terms
    itself : (ks : List KeyType) (t : Ty) (a : ℕ) (b : Term) (m : Ex) (qs : Exs) → slice_get ts a ≡ Some b → b.head ≡ Selects ks t → b.args ≡ More m qs → HaveFlatTypes tys qs (map key_ty ks) → IsSelected s ts ks t (number_of (ev m (over s))) (map number_of (evs qs (over s)))
    itself ks t a b m qs e h g ty =
        record {
          number = a;
          term = b;
          is_there = e;
          selects =
              both (head_eq b.head (Selects ks t)) (int_eq (map_number s b.args) (number_of (ev m (over s))) && takes_parts (MapTy ks t) (length (index_of s b.args))) (head_refl b.head (Selects ks t) h) (both (int_eq (map_number s b.args) (number_of (ev m (over s)))) (takes_parts (MapTy ks t) (length (index_of s b.args))) (int_eq_of (map_number s b.args) (number_of (ev m (over s))) (ap (map_number s) g)) (ap (λ xs. takes_parts (MapTy ks t) (length (index_of s xs))) g ∙ index_length qs ks ty));
          index = ap (index_of s) g;
        }

    module _ (i : Interp) where
      select_right : (ks : List KeyType) (t : Ty) (a : ℕ) (b : Term) (xs : Exs) → slice_get ts a ≡ Some b → b.head ≡ Selects ks t → b.args ≡ xs → b.ty ≡ t → HaveFlatTypes tys xs (MapTy ks t ∷ map key_ty ks) → value_at w (n + a) ≡ mean i (Selects ks t) (evs xs (over w))
      unfolding itself
      select_right ks t a b NoMore e h g y ty = absurd (let bad : ⊥ = cc in bad)
      select_right ks t a b (More m qs) e h g y ty =
          let z = number_of (ev m (over s)) in
          let q = map number_of (evs qs (over s)) in
          let is = itself ks t a b m qs e h g ty.1 in
          values (n + a) t (term_at_type a b e ∙ ap (λ v. Some v) y)
          ∙ sym (ap (given t (build t)) (seen_is ks t z q is))
          ∙ sym (filled_gives s ks t (build t) (built_typed s n ts t) z q n ts)
          ∙ ap (λ m. select m q) (sym (ev_built m (MapTy ks t) ty.0))
          ∙ ap (select (ev m (over w))) (sym (index_same qs ks ty.1))

      -- the new value at the index of an update is selected of it
      at_index_told : (ks : List KeyType) (t : Ty) (u b : ℕ) (x y : Term) (m v : Ex) (qs xs : Exs) → slice_get ts u ≡ Some x → slice_get ts b ≡ Some y → x.head ≡ Updates ks t → y.head ≡ Selects ks t → x.args ≡ More m (More v qs) → y.args ≡ xs → slice_get tys (n + u) ≡ Some (MapTy ks t) → HaveFlatTypes tys qs (map key_ty ks) → HaveFlatTypes tys xs (MapTy ks t ∷ map key_ty ks) → map_number s xs ≡ number_of (value_at s (n + u)) → index_of s xs ≡ map number_of (evs qs (over s)) → value_at s (n + b) ≡ ev v (over s)
      at_index_told ks t u b x y m v qs NoMore e f h g p o tu tq tx z q = absurd (let bad : ⊥ = cc in bad)
      at_index_told ks t u b x y m v qs (More k rs) e f h g p o tu tq tx z q =
          val_same (value_at s (n + b)) (ev v (over s)) (implied (val_eq (ev k (over s)) (value_at s (n + u)) && truth_of (ev (all_equal qs rs) (over s))) (val_eq (value_at s (n + b)) (ev v (over s))) (both (val_eq (ev k (over s)) (value_at s (n + u))) (truth_of (ev (all_equal qs rs) (over s))) (same_eq (ev k (over s)) (value_at s (n + u)) (ints_same (ev k (over s)) (value_at s (n + u)) (numeric k (MapTy ks t) tx.0 refl) (typed (n + u) (MapTy ks t) tu) z)) (equal_back s qs rs (int_lists ks (evs qs (over s)) (evs rs (over s)) (numerics qs ks tq) (numerics rs ks tx.1) (sym q)))) told)
        where
          access : accesses x.head y.head ≡ true
          access = ap (λ k. accesses k y.head) h ∙ ap (accesses (Updates ks t)) g ∙ kinds_refl ks t

          on : (c : Bool) → c ≡ true → truth_of (ev (if c then at_index_of n u b x.args y.args else Fact true) (over s)) ≡ true → truth_of (ev (at_index_of n u b x.args y.args) (over s)) ≡ true
          on true i r = r
          on false i r = absurd (let bad : ⊥ = cc in bad)

          told : truth_of (ev (at_index_of n u b (More m (More v qs)) (More k rs)) (over s)) ≡ true
          told =
              subst (λ ys. truth_of (ev (at_index_of n u b (More m (More v qs)) ys) (over s)) ≡ true) o (subst (λ zs. truth_of (ev (at_index_of n u b zs y.args) (over s)) ≡ true) p (on (accesses x.head y.head) access (sym (ap (λ o1. truth_of (ev (at_index n u b o1 (slice_get ts b)) (over s))) e ∙ ap (λ o2. truth_of (ev (at_index n u b (Some x) o2) (over s))) f) ∙ done.at_index u b)))

      -- elsewhere an update and its map have the same scalar
      elsewhere_told : (ks : List KeyType) (t : Ty) (u b r : ℕ) (x y k : Term) (m v : Ex) (qs xs ys : Exs) → slice_get ts u ≡ Some x → slice_get ts b ≡ Some y → slice_get ts r ≡ Some k → x.head ≡ Updates ks t → y.head ≡ Selects ks t → k.head ≡ Selects ks t → x.args ≡ More m (More v qs) → y.args ≡ xs → k.args ≡ ys → slice_get tys (n + u) ≡ Some (MapTy ks t) → HasFlatType tys m (MapTy ks t) → HaveFlatTypes tys xs (MapTy ks t ∷ map key_ty ks) → HaveFlatTypes tys ys (MapTy ks t ∷ map key_ty ks) → map_number s xs ≡ number_of (value_at s (n + u)) → map_number s ys ≡ number_of (ev m (over s)) → index_of s xs ≡ index_of s ys → keys_eq (map number_of (evs qs (over s))) (index_of s xs) ≡ false → value_at s (n + b) ≡ value_at s (n + r)
      elsewhere_told ks t u b r x y k m v qs NoMore ys e f g hx hy hk p o l tu tm tx ty zx zy i off = absurd (let bad : ⊥ = cc in bad)
      elsewhere_told ks t u b r x y k m v qs (More c cs) NoMore e f g hx hy hk p o l tu tm tx ty zx zy i off = absurd (let bad : ⊥ = cc in bad)
      elsewhere_told ks t u b r x y k m v qs (More c cs) (More d ds) e f g hx hy hk p o l tu tm tx ty zx zy i off =
          val_same (value_at s (n + b)) (value_at s (n + r)) (implied ((val_eq (ev c (over s)) (value_at s (n + u)) && val_eq (ev d (over s)) (ev m (over s))) && (truth_of (ev (all_equal cs ds) (over s)) && not (truth_of (ev (all_equal qs cs) (over s))))) (val_eq (value_at s (n + b)) (value_at s (n + r))) (both (val_eq (ev c (over s)) (value_at s (n + u)) && val_eq (ev d (over s)) (ev m (over s))) (truth_of (ev (all_equal cs ds) (over s)) && not (truth_of (ev (all_equal qs cs) (over s)))) (both (val_eq (ev c (over s)) (value_at s (n + u))) (val_eq (ev d (over s)) (ev m (over s))) (same_eq (ev c (over s)) (value_at s (n + u)) (ints_same (ev c (over s)) (value_at s (n + u)) (numeric c (MapTy ks t) tx.0 refl) (typed (n + u) (MapTy ks t) tu) zx)) (same_eq (ev d (over s)) (ev m (over s)) (ints_same (ev d (over s)) (ev m (over s)) (numeric d (MapTy ks t) ty.0 refl) (numeric m (MapTy ks t) tm refl) zy))) (both (truth_of (ev (all_equal cs ds) (over s))) (not (truth_of (ev (all_equal qs cs) (over s)))) (equal_back s cs ds (int_lists ks (evs cs (over s)) (evs ds (over s)) (numerics cs ks tx.1) (numerics ds ks ty.1) i)) (ap not (false_unless (truth_of (ev (all_equal qs cs) (over s))) apart)))) told)
        where
          apart : truth_of (ev (all_equal qs cs) (over s)) ≡ true → ⊥
          apart h =
              no_true (keys_eq (map number_of (evs qs (over s))) (map number_of (evs cs (over s)))) off (ap (λ zs. keys_eq (map number_of zs) (map number_of (evs cs (over s)))) (equal_alike s qs cs h) ∙ keys_eq_refl (map number_of (evs cs (over s))))

          access : (accesses x.head y.head && accesses x.head k.head) ≡ true
          access =
              both (accesses x.head y.head) (accesses x.head k.head) (ap (λ h. accesses h y.head) hx ∙ ap (accesses (Updates ks t)) hy ∙ kinds_refl ks t) (ap (λ h. accesses h k.head) hx ∙ ap (accesses (Updates ks t)) hk ∙ kinds_refl ks t)

          on : (a : Bool) → a ≡ true → truth_of (ev (if a then elsewhere_of n u b r x.args y.args k.args else Fact true) (over s)) ≡ true → truth_of (ev (elsewhere_of n u b r x.args y.args k.args) (over s)) ≡ true
          on true j q = q
          on false j q = absurd (let bad : ⊥ = cc in bad)

          told : truth_of (ev (elsewhere_of n u b r (More m (More v qs)) (More c cs) (More d ds)) (over s)) ≡ true
          told =
              subst (λ zs. truth_of (ev (elsewhere_of n u b r (More m (More v qs)) (More c cs) zs) (over s)) ≡ true) l (subst (λ zs. truth_of (ev (elsewhere_of n u b r (More m (More v qs)) zs k.args) (over s)) ≡ true) o (subst (λ zs. truth_of (ev (elsewhere_of n u b r zs y.args k.args) (over s)) ≡ true) p (on (accesses x.head y.head && accesses x.head k.head) access (sym (ap (λ o1. truth_of (ev (elsewhere n u b r o1 (slice_get ts b) (slice_get ts r)) (over s))) e
              ∙ ap (λ o2. truth_of (ev (elsewhere n u b r (Some x) o2 (slice_get ts r)) (over s))) f
              ∙ ap (λ o3. truth_of (ev (elsewhere n u b r (Some x) (Some y) o3) (over s))) g) ∙ done.elsewhere u b r))))

      module _ (ks : List KeyType) (t : Ty) (u : ℕ) (x : Term) (m v : Ex) (qs : Exs) (there : slice_get ts u ≡ Some x) (head : x.head ≡ Updates ks t) (args : x.args ≡ More m (More v qs)) (type : x.ty ≡ MapTy ks t) (tm : HasFlatType tys m (MapTy ks t)) (tv : HasFlatType tys v t) (tq : HaveFlatTypes tys qs (map key_ty ks)) where
        abbrev own : ℤ
        own = number_of (value_at s (n + u))

        abbrev old : ℤ
        old = number_of (ev m (over s))

        abbrev index : List ℤ
        index = map number_of (evs qs (over s))

        abbrev gives : ℤ → List ℤ → Val
        gives z q = given t (build t) (seen s ks t z q n ts)

        closed : IsClosed s n ts u ks t m qs
        closed = done.closed u x ks t m v qs there head args

        own_type : slice_get tys (n + u) ≡ Some (MapTy ks t)
        own_type = term_at_type u x there ∙ ap (λ y. Some y) type

        typed_args : (z : ℤ) (a : ℕ) (b : Term) → slice_get ts a ≡ Some b → selects_from s ks t z b ≡ true → HaveFlatTypes tys b.args (MapTy ks t ∷ map key_ty ks)
        typed_args z a b e h = (select_args ks t a b e (head_of ks t z b h)).1

        here : gives own index ≡ build t (ev v (over s))
        here =
            let is = closed.here in
            ap (given t (build t)) (seen_is ks t own index is)
            ∙ ap (build t) (at_index_told ks t u is.number x is.term m v qs is.term.args there is.is_there head (head_of ks t own is.term is.selects) args refl own_type tq (typed_args own is.number is.term is.is_there is.selects) (number_at ks t own is.term is.selects) is.index)

        -- selects of both at one index
        agreed : (q : List ℤ) → keys_eq index q ≡ false → IsSelected s ts ks t own q → IsSelected s ts ks t old q → gives own q ≡ gives old q
        agreed q off a b =
            ap (given t (build t)) (seen_is ks t own q a)
            ∙ ap (build t) (elsewhere_told ks t u a.number b.number x a.term b.term m v qs a.term.args b.term.args there a.is_there b.is_there head (head_of ks t own a.term a.selects) (head_of ks t old b.term b.selects) args refl refl own_type tm (typed_args own a.number a.term a.is_there a.selects) (typed_args old b.number b.term b.is_there b.selects) (number_at ks t own a.term a.selects) (number_at ks t old b.term b.selects) (a.index ∙ sym b.index) (ap (keys_eq index) a.index ∙ off))
            ∙ sym (ap (given t (build t)) (seen_is ks t old q b))

        selected_at : (z : ℤ) (a : ℕ) (b : Term) → slice_get ts a ≡ Some b → selects_from s ks t z b ≡ true → IsSelected s ts ks t z (index_of s b.args)
        selected_at z a b e h = record { number = a; term = b; is_there = e; selects = h; index = refl }

        abbrev ok : Term → Bool
        ok b =
            not (selects_from s ks t own b || selects_from s ks t old b)
            || (keys_eq index (index_of s b.args)
            || val_eq (gives own (index_of s b.args)) (gives old (index_of s b.args)))

        one_ok : (a : ℕ) (b : Term) → slice_get ts a ≡ Some b → ok b ≡ true
        one_ok a b e =
            on (selects_from s ks t own b) (selects_from s ks t old b) (keys_eq index (index_of s b.args)) refl refl refl
          where
            on : (p q r : Bool) → selects_from s ks t own b ≡ p → selects_from s ks t old b ≡ q → keys_eq index (index_of s b.args) ≡ r → (not (p || q) || (r || val_eq (gives own (index_of s b.args)) (gives old (index_of s b.args)))) ≡ true
            on false false r f g h = refl
            on true q true f g h = refl
            on false true true f g h = refl
            on true q false f g h =
                same_eq (gives own (index_of s b.args)) (gives old (index_of s b.args)) (agreed (index_of s b.args) h (selected_at own a b e f) (closed.old a b e f h))
            on false true false f g h =
                same_eq (gives own (index_of s b.args)) (gives old (index_of s b.args)) (agreed (index_of s b.args) h (closed.new a b e g h) (selected_at old a b e g))

        all_ok : (us : List Term) → ((a : ℕ) (b : Term) → slice_get us a ≡ Some b → ok b ≡ true) → agree_but s ks t (build t) n ts own old index us ≡ true
        all_ok [] f = refl
        all_ok (b ∷ us) f =
            both (ok b) (agree_but s ks t (build t) n ts own old index us) (f 0 b refl) (all_ok us (λ a c e. f (suc a) c e))

      update_is_right : (k : KeyType) (ks : List KeyType) (t : Ty) (u : ℕ) (x : Term) (m v : Ex) (qs : Exs) → slice_get ts u ≡ Some x → x.head ≡ Updates (k ∷ ks) t → x.args ≡ More m (More v qs) → x.ty ≡ MapTy (k ∷ ks) t → HasFlatType tys m (MapTy (k ∷ ks) t) → HasFlatType tys v t → HaveFlatTypes tys qs (map key_ty (k ∷ ks)) → value_at w (n + u) ≡ update (ev m (over w)) (map number_of (evs qs (over w))) (ev v (over w))
      update_is_right k ks t u x m v qs e h g y tm tv tq =
          values (n + u) (MapTy (k ∷ ks) t) (own_type (k ∷ ks) t u x m v qs e h g y tm tv tq)
          ∙ update_right s k ks t (build t) (built_typed s n ts t) n ts (number_of (value_at s (n + u))) (number_of (ev m (over s))) (map number_of (evs qs (over s))) (build t (ev v (over s))) (index_length qs (k ∷ ks) tq) (built_typed s n ts t (ev v (over s))) (here (k ∷ ks) t u x m v qs e h g y tm tv tq) (all_ok (k ∷ ks) t u x m v qs e h g y tm tv tq ts (one_ok (k ∷ ks) t u x m v qs e h g y tm tv tq))
          ∙ ap (λ z. update z (map number_of (evs qs (over s))) (build t (ev v (over s)))) (sym (ev_built m (MapTy (k ∷ ks) t) tm))
          ∙ ap (λ q. update (ev m (over w)) q (build t (ev v (over s)))) (sym (index_same qs (k ∷ ks) tq))
          ∙ ap (update (ev m (over w)) (map number_of (evs qs (over w)))) (sym (ev_built v t tv))

      -- ---- applications

      all_equal_over : (xs ys : Exs) (ps : List Ty) → HaveFlatTypes tys xs ps → HaveFlatTypes tys ys ps → evs xs (over w) ≡ evs ys (over w) → truth_of (ev (all_equal xs ys) (over s)) ≡ true
      all_equal_over NoMore NoMore ps h g e = refl
      all_equal_over NoMore (More y ys) ps h g e = absurd (let bad : ⊥ = cc in bad)
      all_equal_over (More x xs) NoMore ps h g e = absurd (let bad : ⊥ = cc in bad)
      all_equal_over (More x xs) (More y ys) [] h g e = absurd h
      all_equal_over (More x xs) (More y ys) (p ∷ ps) h g e =
          let first_same : ev x (over w) ≡ ev y (over w) = cc in
          let rest_same : evs xs (over w) ≡ evs ys (over w) = cc in
          both (val_eq (ev x (over s)) (ev y (over s))) (truth_of (ev (all_equal xs ys) (over s))) (same_laws.compared tys w s stands x y p (says_same tys w s stands x) (says_same tys w s stands y) h.0 g.0 ∙ same_eq (ev x (over w)) (ev y (over w)) first_same) (all_equal_over xs ys ps h.1 g.1 rest_same)

      congruent_told : (a b : ℕ) (x y : Term) → slice_get ts a ≡ Some x → slice_get ts b ≡ Some y → x.head ≡ y.head → truth_of (ev (all_equal x.args y.args) (over s)) ≡ true → value_at s (n + a) ≡ value_at s (n + b)
      congruent_told a b x y e f h g =
          val_same (value_at s (n + a)) (value_at s (n + b)) (on (head_eq x.head y.head) (head_refl x.head y.head h) (sym (ap (λ o. truth_of (ev (congruent n a b o (slice_get ts b)) (over s))) e ∙ ap (λ o. truth_of (ev (congruent n a b (Some x) o) (over s))) f) ∙ done.congruent a b))
        where
          on : (c : Bool) → c ≡ true → truth_of (ev (if c then Binary Implies (all_equal x.args y.args) (equal (term n a) (term n b)) else Fact true) (over s)) ≡ true → val_eq (value_at s (n + a)) (value_at s (n + b)) ≡ true
          on true q r = implied (truth_of (ev (all_equal x.args y.args) (over s))) (val_eq (value_at s (n + a)) (value_at s (n + b))) g r
          on false q r = absurd (let bad : ⊥ = cc in bad)

      module _ (defaults : Head → Val) (read : IsReadOff i defaults w n ts) where
        first_same : (h : Head) (a : ℕ) (x : Term) (ps : List Ty) → slice_get ts a ≡ Some x → x.head ≡ h → ((b : ℕ) (y : Term) → slice_get ts b ≡ Some y → y.head ≡ h → (y.ty ≡ x.ty) × HaveFlatTypes tys y.args ps) → value_at w (n + a) ≡ entry_for (entries_of h w n ts) (evs x.args (over w)) (defaults h)
        first_same h a x ps e hx args =
            let f = first h (evs x.args (over w)) (defaults h) w n ts a x e hx refl in
            let tf = args f.number f.its f.is_there f.head in
            let tx = args a x e hx in
            let same = congruent_told f.number a f.its x f.is_there e (f.head ∙ sym hx) (all_equal_over f.its.args x.args ps tf.1 tx.1 f.key) in
            values (n + a) x.ty (term_at_type a x e)
            ∙ ap (build x.ty) (sym same)
            ∙ sym (values (n + f.number) x.ty (term_at_type f.number f.its f.is_there ∙ ap (λ y. Some y) tf.0))
            ∙ f.value

        applied_args : (g : ℕ) (fn : Fun) (a : ℕ) (x : Term) → slice_get functions g ≡ Some fn → slice_get ts a ≡ Some x → x.head ≡ Applies g → (b : ℕ) (y : Term) → slice_get ts b ≡ Some y → y.head ≡ Applies g → (y.ty ≡ x.ty) × HaveFlatTypes tys y.args fn.params
        applied_args g fn a x ef e h b y f hy =
            let tx = subst (λ z. HeadHasType functions tys z x.args x.ty) h (terms a x e) in
            let ty = subst (λ z. HeadHasType functions tys z y.args y.ty) hy (terms b y f) in
            let fx = one_some (slice_get functions g) tx.0 fn tx.1.0 ef in
            let fy = one_some (slice_get functions g) ty.0 fn ty.1.0 ef in
            (ty.1.1.0 ∙ ap (λ z. z.result) (fy ∙ sym fx) ∙ sym tx.1.1.0, subst (λ z. HaveFlatTypes tys y.args z.params) fy ty.1.1.1)

        by_head : (h : Head) (a : ℕ) (x : Term) → slice_get ts a ≡ Some x → x.head ≡ h → is_differs h ≡ false → ((t : Ty) → h ≡ Updates [] t → ⊥) → value_at w (n + a) ≡ mean i h (evs x.args (over w))
        by_head (Applies g) a x e h o idx =
            let tx = subst (λ z. HeadHasType functions tys z x.args x.ty) h (terms a x e) in
            first_same (Applies g) a x tx.0.params e h (applied_args g tx.0 a x tx.1.0 e h)
            ∙ sym (read.tables g (evs x.args (over w)))
        by_head (Selects ks t) a x e h o idx =
            let tx = subst (λ z. HeadHasType functions tys z x.args x.ty) h (terms a x e) in
            select_right ks t a x x.args e h refl tx.0 tx.1
        by_head (Updates [] t) a x e h o idx = absurd (idx t refl)
        by_head (Updates (k ∷ ks) t) a x e h o idx =
            by_args x.args refl (subst (λ z. HeadHasType functions tys z x.args x.ty) h (terms a x e))
          where
            by_args : (xs : Exs) → x.args ≡ xs → HeadHasType functions tys (Updates (k ∷ ks) t) xs x.ty → value_at w (n + a) ≡ mean i (Updates (k ∷ ks) t) (evs x.args (over w))
            by_args NoMore q ty = absurd (let r = ty.1 in let bad : ⊥ = cc in bad)
            by_args (More m NoMore) q ty = absurd (let r = ty.1.1 in let bad : ⊥ = cc in bad)
            by_args (More m (More v qs)) q ty =
                update_is_right k ks t a x m v qs e h q ty.0 ty.1.0 ty.1.1.0 ty.1.1.1
                ∙ ap (λ ys. mean i (Updates (k ∷ ks) t) (evs ys (over w))) (sym q)
        by_head (Differs ks t j) a x e h o idx = absurd (let bad : ⊥ = cc in bad)

        pub all_right : (a : ℕ) (x : Term) → slice_get ts a ≡ Some x → is_differs x.head ≡ false → ((t : Ty) → x.head ≡ Updates [] t → ⊥) → value_at w (n + a) ≡ term_value i w x
        all_right a x e o idx = by_head x.head a x e refl o idx
