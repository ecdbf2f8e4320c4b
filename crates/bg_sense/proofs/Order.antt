-- The order of values and of keys.
use Rattle.std.proofs.Common.{◌≡◌, Bool, true, false, List, [], ◌∷◌, refl, sym, ap, ◌∙◌, subst, inl, inr, ⊎_elim}
use Rattle.std.specs.Prelude.{◌⊎◌, ℤ, ◌&&◌, if◌then◌else◌, ◌==◌, int_lt}
use Rattle.std.specs.Ordering.{int_eq}
use Rattle.std.proofs.lemmas.Bool.{eqb-true, eq-eqb}
use Rattle.bg_ast.specs.Values.{Val, Num, Truth, Element, Default, Entry, Ty, IntTy, BoolTy, UserTy, MapTy, keys_eq, keys_lt, val_eq, is_of}
use Rattle.bg_sense.specs.Eval.{vals_eq}
use Rattle.bg_sense.specs.Types.{are_of}
use Rattle.bg_sense.specs.Tables.{val_lt, vals_lt}
use Rattle.bg_sense.proofs.Bools.{and_left, and_right, both, bool_cases}
use Rattle.bg_sense.proofs.Keys.{int_kinds, int_lt_self, int_lt_trans, lt_if, lt_rest, is_lt, keys_same, keys_turn, keys_trans, keys_lt_self, keys_eq_refl}
use Rattle.bg_sense.proofs.MapLaws.{val_same, val_eq_refl}
use Rattle.bg_sense.proofs.TypedMaps.{parts}

-- below, the same, or above
abbrev Compared : Bool → Bool → Bool → Type 0
Compared lt eq gt = (lt ≡ true) ⊎ ((eq ≡ true) ⊎ (gt ≡ true))

-- where the first parts are the same, the rest decides; `b` and `b'` are the two ways to ask whether they are
step : (a b c b' d e f : Bool) → (b ≡ true → b' ≡ true) → Compared a b c → Compared d e f → Compared (if a then true else b && d) (b && e) (if c then true else b' && f)
step a b c b' d e f turned (inl x) g = inl (lt_if a b d x)
step a b c b' d e f turned (inr (inl x)) (inl y) = inl (lt_rest a b d x y)
step a b c b' d e f turned (inr (inl x)) (inr (inl y)) = inr (inl (both b e x y))
step a b c b' d e f turned (inr (inl x)) (inr (inr y)) = inr (inr (lt_rest c b' f (turned x) y))
step a b c b' d e f turned (inr (inr x)) g = inr (inr (lt_if c b' f x))

keys_compared : (k l : List ℤ) → Compared (keys_lt k l) (keys_eq k l) (keys_lt l k)
keys_compared k l =
    ⊎_elim
    (λ e. inr (inl e))
    (λ e. ⊎_elim (λ x. inl x) (λ x. inr (inr (keys_turn k l e x))) (bool_cases (keys_lt k l)))
    (bool_cases (keys_eq k l))

keys_turned : (k l : List ℤ) → keys_eq k l ≡ true → keys_eq l k ≡ true
keys_turned k l e = subst (λ x. keys_eq x k ≡ true) (keys_same k l e) (keys_eq_refl k)

val_turned : (v w : Val) → val_eq v w ≡ true → val_eq w v ≡ true
val_turned v w e = subst (λ x. val_eq x v ≡ true) (val_same v w e) (val_eq_refl v)

-- of two values of one type the first is below, the same, or above
pub val_compared : (t : Ty) (v w : Val) → is_of t v ≡ true → is_of t w ≡ true → Compared (val_lt v w) (val_eq v w) (val_lt w v)
val_compared IntTy (Num x) (Num y) h g = int_kinds x y
val_compared IntTy (Num x) w h g = absurd (let bad : ⊥ = cc in bad)
val_compared IntTy v w h g = absurd (let bad : ⊥ = cc in bad)
val_compared BoolTy (Truth true) (Truth true) h g = inr (inl refl)
val_compared BoolTy (Truth true) (Truth false) h g = inr (inr refl)
val_compared BoolTy (Truth false) (Truth true) h g = inl refl
val_compared BoolTy (Truth false) (Truth false) h g = inr (inl refl)
val_compared BoolTy (Truth true) w h g = absurd (let bad : ⊥ = cc in bad)
val_compared BoolTy (Truth false) w h g = absurd (let bad : ⊥ = cc in bad)
val_compared BoolTy v w h g = absurd (let bad : ⊥ = cc in bad)
val_compared (UserTy t) (Element u x) (Element w y) h g =
    let first : t ≡ u = eqb-true t u h in
    let second : t ≡ w = eqb-true t w g in
    let there : (u == w) ≡ true = eq-eqb u w (sym first ∙ second) in
    let back : (w == u) ≡ true = eq-eqb w u (sym second ∙ first) in
    ⊎_elim
    (λ e. inl (both (u == w) (int_lt x y) there e))
    (λ o. ⊎_elim (λ e. inr (inl (both (u == w) (int_eq x y) there e))) (λ e. inr (inr (both (w == u) (int_lt y x) back e))) o)
    (int_kinds x y)
val_compared (UserTy t) (Element u x) w h g = absurd (let bad : ⊥ = cc in bad)
val_compared (UserTy t) v w h g = absurd (let bad : ⊥ = cc in bad)
val_compared (MapTy ks t) (Default a) (Default b) h g = val_compared t a b h g
val_compared (MapTy ks t) (Default a) (Entry l w n) h g = inl refl
val_compared (MapTy ks t) (Default a) w h g = absurd (let bad : ⊥ = cc in bad)
val_compared (MapTy ks t) (Entry k v m) (Default b) h g = inr (inr refl)
val_compared (MapTy ks t) (Entry k v m) (Entry l w n) h g =
    let p = parts ks t k v m h in
    let q = parts ks t l w n g in
    step
    (keys_lt k l)
    (keys_eq k l)
    (keys_lt l k)
    (keys_eq l k)
    (if val_lt v w then true else val_eq v w && val_lt m n)
    (val_eq v w && val_eq m n)
    (if val_lt w v then true else val_eq w v && val_lt n m)
    (keys_turned k l)
    (keys_compared k l)
    (step (val_lt v w) (val_eq v w) (val_lt w v) (val_eq w v) (val_lt m n) (val_eq m n) (val_lt n m) (val_turned v w) (val_compared t v w p.value q.value) (val_compared (MapTy ks t) m n p.rest q.rest))
val_compared (MapTy ks t) (Entry k v m) w h g = absurd (let bad : ⊥ = cc in bad)
val_compared (MapTy ks t) v w h g = absurd (let bad : ⊥ = cc in bad)

pub vals_compared : (ts : List Ty) (vs ws : List Val) → are_of ts vs ≡ true → are_of ts ws ≡ true → Compared (vals_lt vs ws) (vals_eq vs ws) (vals_lt ws vs)
vals_compared [] [] [] h g = inr (inl refl)
vals_compared [] [] (w ∷ ws) h g = absurd (let bad : ⊥ = cc in bad)
vals_compared [] (v ∷ vs) ws h g = absurd (let bad : ⊥ = cc in bad)
vals_compared (t ∷ ts) [] ws h g = absurd (let bad : ⊥ = cc in bad)
vals_compared (t ∷ ts) (v ∷ vs) [] h g = absurd (let bad : ⊥ = cc in bad)
vals_compared (t ∷ ts) (v ∷ vs) (w ∷ ws) h g =
    step
    (val_lt v w)
    (val_eq v w)
    (val_lt w v)
    (val_eq w v)
    (vals_lt vs ws)
    (vals_eq vs ws)
    (vals_lt ws vs)
    (val_turned v w)
    (val_compared t v w (and_left (is_of t v) (are_of ts vs) h) (and_left (is_of t w) (are_of ts ws) g))
    (vals_compared ts vs ws (and_right (is_of t v) (are_of ts vs) h) (and_right (is_of t w) (are_of ts ws) g))

-- the first part is below, or the rest is
one_of : (a b l : Bool) {X : Type 0} → (if a then true else b && l) ≡ true → (a ≡ true → X) → (b ≡ true → l ≡ true → X) → X
one_of a b l e x y = ⊎_elim x (λ r. y r.0 r.1) (is_lt a b l e)

pub val_lt_self : (v : Val) → val_lt v v ≡ true → ⊥
val_lt_self (Num z) e = int_lt_self z e
val_lt_self (Truth true) e = let bad : ⊥ = cc in bad
val_lt_self (Truth false) e = let bad : ⊥ = cc in bad
val_lt_self (Element t z) e = int_lt_self z (and_right (t == t) (int_lt z z) e)
val_lt_self (Default d) e = val_lt_self d e
val_lt_self (Entry k v m) e =
    one_of (keys_lt k k) (keys_eq k k) (if val_lt v v then true else val_eq v v && val_lt m m) e (keys_lt_self k) (λ a b. one_of (val_lt v v) (val_eq v v) (val_lt m m) b (val_lt_self v) (λ c d. val_lt_self m d))

pub vals_lt_self : (vs : List Val) → vals_lt vs vs ≡ true → ⊥
vals_lt_self [] e = let bad : ⊥ = cc in bad
vals_lt_self (v ∷ vs) e =
    one_of (val_lt v v) (val_eq v v) (vals_lt vs vs) e (val_lt_self v) (λ a b. vals_lt_self vs b)

-- two steps of an order part by part
join : (a b l a2 b2 l2 a3 b3 l3 : Bool) → (if a then true else b && l) ≡ true → (if a2 then true else b2 && l2) ≡ true → (a ≡ true → a2 ≡ true → a3 ≡ true) → (a ≡ true → b2 ≡ true → a3 ≡ true) → (b ≡ true → a2 ≡ true → a3 ≡ true) → (b ≡ true → b2 ≡ true → b3 ≡ true) → (l ≡ true → l2 ≡ true → l3 ≡ true) → (if a3 then true else b3 && l3) ≡ true
join a b l a2 b2 l2 a3 b3 l3 e f ll le el ee rest =
    one_of
    a
    b
    l
    e
    (λ x. one_of a2 b2 l2 f (λ y. lt_if a3 b3 l3 (ll x y)) (λ y z. lt_if a3 b3 l3 (le x y)))
    (λ x r. one_of a2 b2 l2 f (λ y. lt_if a3 b3 l3 (el x y)) (λ y z. lt_rest a3 b3 l3 (ee x y) (rest r z)))

val_eq_trans : (u v w : Val) → val_eq u v ≡ true → val_eq v w ≡ true → val_eq u w ≡ true
val_eq_trans u v w e f = subst (λ x. val_eq x w ≡ true) (sym (val_same u v e)) f

pub val_trans : (u v w : Val) → val_lt u v ≡ true → val_lt v w ≡ true → val_lt u w ≡ true
val_trans (Num x) (Num y) (Num z) e f = int_lt_trans x y z e f
val_trans (Num x) (Num y) w e f = absurd (let bad : ⊥ = cc in bad)
val_trans (Num x) v w e f = absurd (let bad : ⊥ = cc in bad)
val_trans (Truth true) (Truth b) w e f = absurd (let bad : ⊥ = cc in bad)
val_trans (Truth false) (Truth true) (Truth b) e f = absurd (let bad : ⊥ = cc in bad)
val_trans (Truth false) (Truth false) w e f = absurd (let bad : ⊥ = cc in bad)
val_trans (Truth false) (Truth true) w e f = absurd (let bad : ⊥ = cc in bad)
val_trans (Truth true) v w e f = absurd (let bad : ⊥ = cc in bad)
val_trans (Truth false) v w e f = absurd (let bad : ⊥ = cc in bad)
val_trans (Element s x) (Element t y) (Element u z) e f =
    both
    (s == u)
    (int_lt x z)
    (eq-eqb s u (eqb-true s t (and_left (s == t) (int_lt x y) e) ∙ eqb-true t u (and_left (t == u) (int_lt y z) f)))
    (int_lt_trans x y z (and_right (s == t) (int_lt x y) e) (and_right (t == u) (int_lt y z) f))
val_trans (Element s x) (Element t y) w e f = absurd (let bad : ⊥ = cc in bad)
val_trans (Element s x) v w e f = absurd (let bad : ⊥ = cc in bad)
val_trans (Default a) (Default b) (Default c) e f = val_trans a b c e f
val_trans (Default a) (Default b) (Entry k v m) e f = refl
val_trans (Default a) (Default b) w e f = absurd (let bad : ⊥ = cc in bad)
val_trans (Default a) (Entry k v m) (Entry l w n) e f = refl
val_trans (Default a) (Entry k v m) w e f = absurd (let bad : ⊥ = cc in bad)
val_trans (Default a) v w e f = absurd (let bad : ⊥ = cc in bad)
val_trans (Entry k u m) (Entry l v n) (Entry q w o) e f =
    join
    (keys_lt k l)
    (keys_eq k l)
    (if val_lt u v then true else val_eq u v && val_lt m n)
    (keys_lt l q)
    (keys_eq l q)
    (if val_lt v w then true else val_eq v w && val_lt n o)
    (keys_lt k q)
    (keys_eq k q)
    (if val_lt u w then true else val_eq u w && val_lt m o)
    e
    f
    (keys_trans k l q)
    (λ x y. subst (λ z. keys_lt k z ≡ true) (keys_same l q y) x)
    (λ x y. subst (λ z. keys_lt z q ≡ true) (sym (keys_same k l x)) y)
    (λ x y. subst (λ z. keys_eq z q ≡ true) (sym (keys_same k l x)) y)
    (λ x y. join
    (val_lt u v)
    (val_eq u v)
    (val_lt m n)
    (val_lt v w)
    (val_eq v w)
    (val_lt n o)
    (val_lt u w)
    (val_eq u w)
    (val_lt m o)
    x
    y
    (val_trans u v w)
    (λ a b. subst (λ z. val_lt u z ≡ true) (val_same v w b) a)
    (λ a b. subst (λ z. val_lt z w ≡ true) (sym (val_same u v a)) b)
    (val_eq_trans u v w)
    (val_trans m n o))
val_trans (Entry k u m) (Entry l v n) w e f = absurd (let bad : ⊥ = cc in bad)
val_trans (Entry k u m) v w e f = absurd (let bad : ⊥ = cc in bad)

pub vals_trans : (us vs ws : List Val) → vals_lt us vs ≡ true → vals_lt vs ws ≡ true → vals_lt us ws ≡ true
vals_trans [] [] ws e f = absurd (let bad : ⊥ = cc in bad)
vals_trans [] (v ∷ vs) [] e f = absurd (let bad : ⊥ = cc in bad)
vals_trans [] (v ∷ vs) (w ∷ ws) e f = refl
vals_trans (u ∷ us) [] ws e f = absurd (let bad : ⊥ = cc in bad)
vals_trans (u ∷ us) (v ∷ vs) [] e f = absurd (let bad : ⊥ = cc in bad)
vals_trans (u ∷ us) (v ∷ vs) (w ∷ ws) e f =
    join
    (val_lt u v)
    (val_eq u v)
    (vals_lt us vs)
    (val_lt v w)
    (val_eq v w)
    (vals_lt vs ws)
    (val_lt u w)
    (val_eq u w)
    (vals_lt us ws)
    e
    f
    (val_trans u v w)
    (λ a b. subst (λ z. val_lt u z ≡ true) (val_same v w b) a)
    (λ a b. subst (λ z. val_lt z w ≡ true) (sym (val_same u v a)) b)
    (val_eq_trans u v w)
    (vals_trans us vs ws)

pub vals_same : (vs ws : List Val) → vals_eq vs ws ≡ true → vs ≡ ws
vals_same [] [] e = refl
vals_same [] (w ∷ ws) e = absurd (let bad : ⊥ = cc in bad)
vals_same (v ∷ vs) [] e = absurd (let bad : ⊥ = cc in bad)
vals_same (v ∷ vs) (w ∷ ws) e =
    ap (λ x. x ∷ vs) (val_same v w (and_left (val_eq v w) (vals_eq vs ws) e)) ∙ ap (λ l. w ∷ l) (vals_same vs ws (and_right (val_eq v w) (vals_eq vs ws) e))
