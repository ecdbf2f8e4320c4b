-- Values of incarnations: what they say of the variables, and how they are written.
use Rattle.std.proofs.Common.{◌≡◌, ℕ, zero, suc, true, false, List, [], ◌∷◌, ◌++◌, map, Option, Some, None, refl, sym, ap, ◌∙◌, subst, arith}
use Rattle.std.specs.Prelude.{◌<◌, ◌≤◌, ◌&&◌, not, ◌==◌, slice_get, slice_set}
use Rattle.std.specs.Ordering.{int_eq}
use Rattle.std.proofs.lemmas.Bool.{eqb-true, eq-eqb}
use Rattle.bg_ast.specs.Values.{Val, Num, Truth, Element, Default, Entry, Ty, is_of, truth_of, val_eq, keys_eq, number_of, select, update}
use Rattle.bg_ast.specs.Syntax.{Var, Global, Local, Ex, Exs, Number, Fact, Constant, Read, Not, Negative, Binary, Apply, Select, Update, Old, NoMore, More}
use Rattle.bg_sense.specs.Eval.{Scope, ev, evs, value_at, operate, read, functions_of}
use Rattle.bg_sense.specs.Flow.{World}
use Rattle.bg_ast.specs.Execution.{Spot, AtAssert, AtEntry, AfterTurn, AtCall, AtReturn}
use Rattle.bg_sense.specs.Context.{Ctx, scope}
use Rattle.bg_sense.specs.Variables.{put, put_all}
use Rattle.bg_sense.specs.Types.{are_of}
use Rattle.bg_passive.specs.Passive.{spot_eq}
use Rattle.bg_passive.specs.Incarnations.{Env, rename_at, rename_var, rename, renames, hold, hold_all, Below, EnvBelow, Arrival}
use Rattle.bg_sense.proofs.Bools.{and_left, and_right, both}

-- equal values are the same
int_eq_true : (x y : _) → int_eq x y ≡ true → x ≡ y
int_eq_true x y e = grind arith

int_eq_refl : (x : _) → int_eq x x ≡ true
int_eq_refl x = grind arith

keys_eq_true : (xs ys : List _) → keys_eq xs ys ≡ true → xs ≡ ys
keys_eq_true [] [] e = refl
keys_eq_true [] (y ∷ ys) e = absurd (let bad : ⊥ = cc in bad)
keys_eq_true (x ∷ xs) [] e = absurd (let bad : ⊥ = cc in bad)
keys_eq_true (x ∷ xs) (y ∷ ys) e =
    ap (λ z. z ∷ xs) (int_eq_true x y (and_left (int_eq x y) (keys_eq xs ys) e)) ∙ ap (λ l. y ∷ l) (keys_eq_true xs ys (and_right (int_eq x y) (keys_eq xs ys) e))

keys_eq_refl : (xs : List _) → keys_eq xs xs ≡ true
keys_eq_refl [] = refl
keys_eq_refl (x ∷ xs) = both (int_eq x x) (keys_eq xs xs) (int_eq_refl x) (keys_eq_refl xs)

pub val_eq_refl : (v : Val) → val_eq v v ≡ true
val_eq_refl (Num x) = int_eq_refl x
val_eq_refl (Truth true) = refl
val_eq_refl (Truth false) = refl
val_eq_refl (Element t x) = both (t == t) (int_eq x x) (eq-eqb t t refl) (int_eq_refl x)
val_eq_refl (Default d) = val_eq_refl d
val_eq_refl (Entry k v m) =
    both (keys_eq k k) (val_eq v v && val_eq m m) (keys_eq_refl k) (both (val_eq v v) (val_eq m m) (val_eq_refl v) (val_eq_refl m))

pub val_eq_true : (v w : Val) → val_eq v w ≡ true → v ≡ w
val_eq_true (Num x) (Num y) e = ap Num (int_eq_true x y e)
val_eq_true (Truth true) (Truth true) e = refl
val_eq_true (Truth true) (Truth false) e = absurd (let bad : ⊥ = cc in bad)
val_eq_true (Truth false) (Truth true) e = absurd (let bad : ⊥ = cc in bad)
val_eq_true (Truth false) (Truth false) e = refl
val_eq_true (Element t x) (Element u y) e =
    ap (λ a. Element a x) (eqb-true t u (and_left (t == u) (int_eq x y) e)) ∙ ap (Element u) (int_eq_true x y (and_right (t == u) (int_eq x y) e))
val_eq_true (Default a) (Default b) e = ap Default (val_eq_true a b e)
val_eq_true (Entry k v m) (Entry l w n) e =
    let e1 = and_right (keys_eq k l) (val_eq v w && val_eq m n) e in
    ap (λ q. Entry q v m) (keys_eq_true k l (and_left (keys_eq k l) (val_eq v w && val_eq m n) e))
    ∙ ap (λ q. Entry l q m) (val_eq_true v w (and_left (val_eq v w) (val_eq m n) e1))
    ∙ ap (Entry l w) (val_eq_true m n (and_right (val_eq v w) (val_eq m n) e1))
val_eq_true v w e = absurd (let bad : ⊥ = cc in bad)

-- reading, as the scope of a state does, by the numbers of incarnations
pub read_at : (V : List Val) (s : Scope) → s.frame ≡ V → (js : List ℕ) (x : ℕ) → ev (rename_at (slice_get js x)) s ≡ value_at (map (value_at V) js) x
read_at V s e [] x = refl
read_at V s e (j ∷ js) zero = ap (λ f. value_at f j) e
read_at V s e (j ∷ js) (suc x) = read_at V s e js x

pub map_set : (V : List Val) (js : List ℕ) (x j : ℕ) → map (value_at V) (slice_set js x j) ≡ slice_set (map (value_at V) js) x (value_at V j)
map_set V [] x j = refl
map_set V (i ∷ js) zero j = refl
map_set V (i ∷ js) (suc x) j = ap (λ l. value_at V i ∷ l) (map_set V js x j)

-- writes
pub set_there : (ts : List Ty) (vs : List Val) (i : ℕ) (t : Ty) (v : Val) → are_of ts vs ≡ true → slice_get ts i ≡ Some t → value_at (slice_set vs i v) i ≡ v
set_there [] vs i t v e h = absurd (let bad : ⊥ = cc in bad)
set_there (u ∷ ts) [] i t v e h = absurd (let bad : ⊥ = cc in bad)
set_there (u ∷ ts) (w ∷ vs) zero t v e h = refl
set_there (u ∷ ts) (w ∷ vs) (suc i) t v e h = set_there ts vs i t v (and_right (is_of u w) (are_of ts vs) e) h

pub set_elsewhere : (vs : List Val) (i j : ℕ) (v : Val) → j < i → value_at (slice_set vs i v) j ≡ value_at vs j
set_elsewhere [] i j v h = refl
set_elsewhere (w ∷ vs) zero j v h = absurd (let bad : ⊥ = omega arith in bad)
set_elsewhere (w ∷ vs) (suc i) zero v h = refl
set_elsewhere (w ∷ vs) (suc i) (suc j) v h = set_elsewhere vs i j v (omega arith)

pub set_are : (ts : List Ty) (vs : List Val) (i : ℕ) (t : Ty) (v : Val) → are_of ts vs ≡ true → slice_get ts i ≡ Some t → is_of t v ≡ true → are_of ts (slice_set vs i v) ≡ true
set_are [] vs i t v e h f = absurd (let bad : ⊥ = cc in bad)
set_are (u ∷ ts) [] i t v e h f = absurd (let bad : ⊥ = cc in bad)
set_are (u ∷ ts) (w ∷ vs) zero t v e h f =
    let same : u ≡ t = cc in
    both (is_of u v) (are_of ts vs) (subst (λ x. is_of x v ≡ true) (sym same) f) (and_right (is_of u w) (are_of ts vs) e)
set_are (u ∷ ts) (w ∷ vs) (suc i) t v e h f =
    both (is_of u w) (are_of ts (slice_set vs i v)) (and_left (is_of u w) (are_of ts vs) e) (set_are ts vs i t v (and_right (is_of u w) (are_of ts vs) e) h f)

pub get_are : (ts : List Ty) (vs : List Val) (i : ℕ) (t : Ty) → are_of ts vs ≡ true → slice_get ts i ≡ Some t → is_of t (value_at vs i) ≡ true
get_are [] vs i t e h = absurd (let bad : ⊥ = cc in bad)
get_are (u ∷ ts) [] i t e h = absurd (let bad : ⊥ = cc in bad)
get_are (u ∷ ts) (w ∷ vs) zero t e h =
    let same : u ≡ t = cc in subst (λ x. is_of x w ≡ true) same (and_left (is_of u w) (are_of ts vs) e)
get_are (u ∷ ts) (w ∷ vs) (suc i) t e h = get_are ts vs i t (and_right (is_of u w) (are_of ts vs) e) h

-- the same below n
abbrev pub Agree : ℕ → List Val → List Val → Type 0
Agree n V W = (j : ℕ) → j < n → value_at W j ≡ value_at V j

pub agree_on : (n m : ℕ) (V W X : List Val) → n ≤ m → Agree n V W → Agree m W X → Agree n V X
agree_on n m V W X le a b j h = b j (omega arith) ∙ a j h

pub map_agree : (n : ℕ) (V W : List Val) (js : List ℕ) → Below n js → Agree n V W → map (value_at W) js ≡ map (value_at V) js
map_agree n V W [] b a = refl
map_agree n V W (j ∷ js) b a =
    ap (λ v. v ∷ map (value_at W) js) (a j b.0) ∙ ap (λ l. value_at V j ∷ l) (map_agree n V W js b.1 a)

pub below_more : (n m : ℕ) (js : List ℕ) → n ≤ m → Below n js → Below m js
below_more n m [] le b = tt
below_more n m (j ∷ js) le b = (let h = b.0 in omega arith, below_more n m js le b.1)

pub below_set : (n : ℕ) (js : List ℕ) (x j : ℕ) → j < n → Below n js → Below n (slice_set js x j)
below_set n [] x j h b = tt
below_set n (i ∷ js) zero j h b = (h, b.1)
below_set n (i ∷ js) (suc x) j h b = (b.0, below_set n js x j h b.1)

pub below_append : (n : ℕ) (is js : List ℕ) → Below n is → Below n js → Below n (is ++ js)
below_append n [] js a b = b
below_append n (i ∷ is) js a b = (a.0, below_append n is js a.1 b)

pub map_append : (V : List Val) (is js : List ℕ) → map (value_at V) (is ++ js) ≡ map (value_at V) is ++ map (value_at V) js
map_append V [] js = refl
map_append V (i ∷ is) js = ap (λ l. value_at V i ∷ l) (map_append V is js)

pub env_more : (n m : ℕ) (v : Env) → n ≤ m → EnvBelow n v → EnvBelow m v
env_more n m v le b = (below_more n m v.globals le b.0, below_more n m v.before le b.1, below_more n m v.frame le b.2)

pub hold_below : (n : ℕ) (x : Var) (j : ℕ) (v : Env) → j < n → EnvBelow n v → EnvBelow n (hold x j v)
hold_below n (Global x) j v h b = (below_set n v.globals x j h b.0, b.1, b.2)
hold_below n (Local x) j v h b = (b.0, b.1, below_set n v.frame x j h b.2)

pub hold_all_below : (n : ℕ) (xs : List Var) (js : List ℕ) (v : Env) → Below n js → EnvBelow n v → EnvBelow n (hold_all xs js v)
hold_all_below n [] js v h b = b
hold_all_below n (x ∷ xs) [] v h b = b
hold_all_below n (x ∷ xs) (j ∷ js) v h b = hold_all_below n xs js (hold x j v) h.1 (hold_below n x j v h.0 b)

pub spot_refl : (s : Spot) → spot_eq s s ≡ true
spot_refl (AtAssert a) = eq-eqb a a refl
spot_refl (AtEntry a) = eq-eqb a a refl
spot_refl (AfterTurn a) = eq-eqb a a refl
spot_refl (AtCall s a) = both (s == s) (a == a) (eq-eqb s s refl) (eq-eqb a a refl)
spot_refl (AtReturn s a) = both (s == s) (a == a) (eq-eqb s s refl) (eq-eqb a a refl)

pub spot_true : (s t : Spot) → spot_eq s t ≡ true → s ≡ t
spot_true (AtAssert a) (AtAssert b) e = ap AtAssert (eqb-true a b e)
spot_true (AtEntry a) (AtEntry b) e = ap AtEntry (eqb-true a b e)
spot_true (AfterTurn a) (AfterTurn b) e = ap AfterTurn (eqb-true a b e)
spot_true (AtCall s a) (AtCall t b) e =
    ap (λ x. AtCall x a) (eqb-true s t (and_left (s == t) (a == b) e)) ∙ ap (AtCall t) (eqb-true a b (and_right (s == t) (a == b) e))
spot_true (AtReturn s a) (AtReturn t b) e =
    ap (λ x. AtReturn x a) (eqb-true s t (and_left (s == t) (a == b) e)) ∙ ap (AtReturn t) (eqb-true a b (and_right (s == t) (a == b) e))
spot_true s t e = absurd (let bad : ⊥ = cc in bad)

module _ (c : Ctx) where
  abbrev pub scope_with : List Val → List Val → List Val → Scope
  scope_with g b r =
      record {
        functions = functions_of c.program c.interp;
        constants = c.interp.constants;
        globals = g;
        before = b;
        frame = r;
      }

  -- what names mean where the incarnations have these values
  abbrev pub values : List Val → Scope
  values V = scope_with [] [] V

  abbrev pub seen : List Val → Env → Scope
  seen V v = scope_with (map (value_at V) v.globals) (map (value_at V) v.before) (map (value_at V) v.frame)

  renamed_var : (x : Var) (v : Env) (V : List Val) → ev (rename_var v x) (values V) ≡ read (seen V v) x
  renamed_var (Global x) v V = read_at V (values V) refl v.globals x
  renamed_var (Local x) v V = read_at V (values V) refl v.frame x

  mutual
    pub renamed : (e : Ex) (v : Env) (V : List Val) → ev (rename e v) (values V) ≡ ev e (seen V v)
    renamed (Number z) v V = refl
    renamed (Fact b) v V = refl
    renamed (Constant k) v V = refl
    renamed (Read x) v V = renamed_var x v V
    renamed (Not e) v V = ap (λ a. Truth (not (truth_of a))) (renamed e v V)
    renamed (Negative e) v V = ap (λ a. operate_neg a) (renamed e v V)
      where
        operate_neg : Val → Val
        operate_neg a = ev (Negative (Read (Local 0))) (values (a ∷ []))
    renamed (Binary op a b) v V =
        ap (λ x. operate op x (ev (rename b v) (values V))) (renamed a v V) ∙ ap (operate op (ev a (seen V v))) (renamed b v V)
    renamed (Apply f es) v V = ap (functions_of c.program c.interp f) (renamed_all es v V)
    renamed (Select m es) v V =
        ap (λ x. select x (map number_of (evs (renames es v) (values V)))) (renamed m v V)
        ∙ ap (λ l. select (ev m (seen V v)) (map number_of l)) (renamed_all es v V)
    renamed (Update m es e) v V =
        ap (λ x. update x (map number_of (evs (renames es v) (values V))) (ev (rename e v) (values V))) (renamed m v V)
        ∙ ap (λ l. update (ev m (seen V v)) (map number_of l) (ev (rename e v) (values V))) (renamed_all es v V)
        ∙ ap (update (ev m (seen V v)) (map number_of (evs es (seen V v)))) (renamed e v V)
    renamed (Old e) v V = renamed e (record v { globals = v.before }) V

    pub renamed_all : (es : Exs) (v : Env) (V : List Val) → evs (renames es v) (values V) ≡ evs es (seen V v)
    renamed_all NoMore v V = refl
    renamed_all (More e es) v V =
        ap (λ a. a ∷ evs (renames es v) (values V)) (renamed e v V) ∙ ap (λ l. ev e (seen V v) ∷ l) (renamed_all es v V)

  pub same_scopes : (g g' b b' r r' : List Val) → g ≡ g' → b ≡ b' → r ≡ r' → scope_with g b r ≡ scope_with g' b' r'
  same_scopes g g' b b' r r' e f h =
      ap (λ x. scope_with x b r) e ∙ ap (λ x. scope_with g' x r) f ∙ ap (scope_with g' b') h

  -- the incarnations say what the variables are
  abbrev pub Met : List Val → Env → List Val → List Val → Type 0
  Met V v g r =
      (map (value_at V) v.globals ≡ g) × (map (value_at V) v.frame ≡ r) × (map (value_at V) v.before ≡ c.before)

  pub met_scope : (V : List Val) (v : Env) (w : World) → Met V v w.globals w.frame → seen V v ≡ scope c w
  met_scope V v w m =
      same_scopes (map (value_at V) v.globals) w.globals (map (value_at V) v.before) c.before (map (value_at V) v.frame) w.frame m.0 m.2 m.1

  pub seen_agree : (n : ℕ) (V W : List Val) (v : Env) → EnvBelow n v → Agree n V W → seen W v ≡ seen V v
  seen_agree n V W v b a =
      same_scopes (map (value_at W) v.globals) (map (value_at V) v.globals) (map (value_at W) v.before) (map (value_at V) v.before) (map (value_at W) v.frame) (map (value_at V) v.frame) (map_agree n V W v.globals b.0 a) (map_agree n V W v.before b.1 a) (map_agree n V W v.frame b.2 a)

  pub met_agree : (n : ℕ) (V W : List Val) (v : Env) (g r : List Val) → EnvBelow n v → Agree n V W → Met V v g r → Met W v g r
  met_agree n V W v g r b a m =
      (map_agree n V W v.globals b.0 a ∙ m.0, map_agree n V W v.frame b.2 a ∙ m.1, map_agree n V W v.before b.1 a ∙ m.2)

  pub hold_met : (V : List Val) (v : Env) (x : Var) (j : ℕ) (a : Val) (w : World) → value_at V j ≡ a → Met V v w.globals w.frame → Met V (hold x j v) (put x a w).globals (put x a w).frame
  hold_met V v (Global x) j a w e m =
      (map_set V v.globals x j ∙ ap (λ l. slice_set l x (value_at V j)) m.0 ∙ ap (slice_set w.globals x) e, m.1, m.2)
  hold_met V v (Local x) j a w e m =
      (m.0, map_set V v.frame x j ∙ ap (λ l. slice_set l x (value_at V j)) m.1 ∙ ap (slice_set w.frame x) e, m.2)

  pub head_same : (a b : Val) (l m : List Val) → (a ∷ l) ≡ (b ∷ m) → a ≡ b
  head_same a b l m e = ap (λ x. value_at x 0) e

  pub tail_same : (a b : Val) (l m : List Val) → (a ∷ l) ≡ (b ∷ m) → l ≡ m
  tail_same a b l m e = ap rest e
    where
      rest : List Val → List Val
      rest [] = []
      rest (x ∷ xs) = xs

  pub hold_all_met : (V : List Val) (xs : List Var) (js : List ℕ) (vs : List Val) (v : Env) (w : World) → map (value_at V) js ≡ vs → Met V v w.globals w.frame → Met V (hold_all xs js v) (put_all xs vs w).globals (put_all xs vs w).frame
  hold_all_met V [] js vs v w e m = m
  hold_all_met V (x ∷ xs) [] [] v w e m = m
  hold_all_met V (x ∷ xs) [] (a ∷ vs) v w e m = absurd (let bad : ⊥ = cc in bad)
  hold_all_met V (x ∷ xs) (j ∷ js) [] v w e m = absurd (let bad : ⊥ = cc in bad)
  hold_all_met V (x ∷ xs) (j ∷ js) (a ∷ vs) v w e m =
      hold_all_met V xs js vs (hold x j v) (put x a w) (tail_same (value_at V j) a (map (value_at V) js) vs e) (hold_met V v x j a w (head_same (value_at V j) a (map (value_at V) js) vs e) m)

  -- a later block is arrived at so
  abbrev pub MetBy : Option Arrival → List Val → World → Type 0
  MetBy None V w = Unit {0}
  MetBy (Some a) V w = Met V a.env w.globals w.frame
