-- The order of indices.
use Rattle.std.proofs.Common.{◌≡◌, Bool, true, false, List, [], ◌∷◌, refl, sym, ap, ◌∙◌, inl, inr, ⊎_elim, arith}
use Rattle.std.specs.Prelude.{◌⊎◌, ℤ, ◌&&◌, if◌then◌else◌, int_lt}
use Rattle.std.specs.Ordering.{int_eq}
use Rattle.bg_ast.specs.Values.{Val, Num, Truth, Element, Default, Entry, keys_eq, keys_lt, below_first}
use Rattle.bg_sense.proofs.Bools.{and_left, and_right, both, bool_cases}

pub int_kinds : (x y : ℤ) → (int_lt x y ≡ true) ⊎ ((int_eq x y ≡ true) ⊎ (int_lt y x ≡ true))
int_kinds x y = grind arith

pub int_eq_same : (x y : ℤ) → int_eq x y ≡ true → x ≡ y
int_eq_same x y e = grind arith

pub int_eq_turned : (x y : ℤ) → int_eq x y ≡ true → int_eq y x ≡ true
int_eq_turned x y e = grind arith

pub keys_same : (xs ys : List ℤ) → keys_eq xs ys ≡ true → xs ≡ ys
keys_same [] [] e = refl
keys_same [] (y ∷ ys) e = absurd (let bad : ⊥ = cc in bad)
keys_same (x ∷ xs) [] e = absurd (let bad : ⊥ = cc in bad)
keys_same (x ∷ xs) (y ∷ ys) e =
    ap (λ z. z ∷ xs) (int_eq_same x y (and_left (int_eq x y) (keys_eq xs ys) e)) ∙ ap (λ l. y ∷ l) (keys_same xs ys (and_right (int_eq x y) (keys_eq xs ys) e))

-- one step of the order, by its tests
pub lt_if : (a b l : Bool) → a ≡ true → (if a then true else b && l) ≡ true
lt_if true b l e = refl
lt_if false b l e = absurd (let bad : ⊥ = cc in bad)

pub lt_rest : (a b l : Bool) → b ≡ true → l ≡ true → (if a then true else b && l) ≡ true
lt_rest true b l e f = refl
lt_rest false true l e f = f
lt_rest false false l e f = e

not_lt : (a b l : Bool) → (if a then true else b && l) ≡ false → (a ≡ false) × (b ≡ true → l ≡ false)
not_lt true b l e = absurd (let bad : ⊥ = cc in bad)
not_lt false true l e = (refl, λ f. e)
not_lt false false l e = (refl, λ f. absurd (let bad : ⊥ = cc in bad))

pub is_lt : (a b l : Bool) → (if a then true else b && l) ≡ true → (a ≡ true) ⊎ ((b ≡ true) × (l ≡ true))
is_lt true b l e = inl refl
is_lt false true l e = inr (refl, e)
is_lt false false l e = absurd (let bad : ⊥ = cc in bad)

pub false_true : (a : Bool) → a ≡ false → a ≡ true → ⊥
false_true a e f = let bad : ⊥ = cc in bad

pub keys_turn : (xs ys : List ℤ) → keys_eq xs ys ≡ false → keys_lt xs ys ≡ false → keys_lt ys xs ≡ true
keys_turn [] [] e f = absurd (let bad : ⊥ = cc in bad)
keys_turn [] (y ∷ ys) e f = absurd (let bad : ⊥ = cc in bad)
keys_turn (x ∷ xs) [] e f = refl
keys_turn (x ∷ xs) (y ∷ ys) e f =
    ⊎_elim
    (λ lt. absurd (false_true (int_lt x y) (not_lt (int_lt x y) (int_eq x y) (keys_lt xs ys) f).0 lt))
    (λ o. ⊎_elim
    (λ eq. lt_rest (int_lt y x) (int_eq y x) (keys_lt ys xs) (int_eq_turned x y eq) (keys_turn xs ys (sym (ap (λ b. b && keys_eq xs ys) eq) ∙ e) ((not_lt (int_lt x y) (int_eq x y) (keys_lt xs ys) f).1 eq)))
    (λ gt. lt_if (int_lt y x) (int_eq y x) (keys_lt ys xs) gt)
    o)
    (int_kinds x y)

pub int_lt_trans : (x y z : ℤ) → int_lt x y ≡ true → int_lt y z ≡ true → int_lt x z ≡ true
int_lt_trans x y z e f = grind arith

int_lt_eq : (x y z : ℤ) → int_lt x y ≡ true → int_eq y z ≡ true → int_lt x z ≡ true
int_lt_eq x y z e f = grind arith

int_eq_lt : (x y z : ℤ) → int_eq x y ≡ true → int_lt y z ≡ true → int_lt x z ≡ true
int_eq_lt x y z e f = grind arith

pub int_eq_trans : (x y z : ℤ) → int_eq x y ≡ true → int_eq y z ≡ true → int_eq x z ≡ true
int_eq_trans x y z e f = grind arith

pub keys_trans : (xs ys zs : List ℤ) → keys_lt xs ys ≡ true → keys_lt ys zs ≡ true → keys_lt xs zs ≡ true
keys_trans [] [] zs e f = absurd (let bad : ⊥ = cc in bad)
keys_trans [] (y ∷ ys) [] e f = absurd (let bad : ⊥ = cc in bad)
keys_trans [] (y ∷ ys) (z ∷ zs) e f = refl
keys_trans (x ∷ xs) [] zs e f = absurd (let bad : ⊥ = cc in bad)
keys_trans (x ∷ xs) (y ∷ ys) [] e f = absurd (let bad : ⊥ = cc in bad)
keys_trans (x ∷ xs) (y ∷ ys) (z ∷ zs) e f =
    ⊎_elim
    (λ a. ⊎_elim
    (λ b. lt_if (int_lt x z) (int_eq x z) (keys_lt xs zs) (int_lt_trans x y z a b))
    (λ b. lt_if (int_lt x z) (int_eq x z) (keys_lt xs zs) (int_lt_eq x y z a b.0))
    (is_lt (int_lt y z) (int_eq y z) (keys_lt ys zs) f))
    (λ a. ⊎_elim
    (λ b. lt_if (int_lt x z) (int_eq x z) (keys_lt xs zs) (int_eq_lt x y z a.0 b))
    (λ b. lt_rest (int_lt x z) (int_eq x z) (keys_lt xs zs) (int_eq_trans x y z a.0 b.0) (keys_trans xs ys zs a.1 b.1))
    (is_lt (int_lt y z) (int_eq y z) (keys_lt ys zs) f))
    (is_lt (int_lt x y) (int_eq x y) (keys_lt xs ys) e)

pub below_trans : (k l : List ℤ) (m : Val) → keys_lt k l ≡ true → below_first l m ≡ true → below_first k m ≡ true
below_trans k l (Num z) e f = refl
below_trans k l (Truth b) e f = refl
below_trans k l (Element t z) e f = refl
below_trans k l (Default d) e f = refl
below_trans k l (Entry p v m) e f = keys_trans k l p e f

pub keys_eq_refl : (xs : List ℤ) → keys_eq xs xs ≡ true
keys_eq_refl [] = refl
keys_eq_refl (x ∷ xs) = both (int_eq x x) (keys_eq xs xs) (int_eq_refl x) (keys_eq_refl xs)
  where
    int_eq_refl : (z : ℤ) → int_eq z z ≡ true
    int_eq_refl z = grind arith

pub int_lt_self : (x : ℤ) → int_lt x x ≡ true → ⊥
int_lt_self x e = grind arith

pub keys_lt_self : (xs : List ℤ) → keys_lt xs xs ≡ true → ⊥
keys_lt_self [] e = let bad : ⊥ = cc in bad
keys_lt_self (x ∷ xs) e =
    ⊎_elim (int_lt_self x) (λ b. keys_lt_self xs b.1) (is_lt (int_lt x x) (int_eq x x) (keys_lt xs xs) e)

-- an index below another is not the same
pub keys_lt_apart : (xs ys : List ℤ) → keys_lt xs ys ≡ true → keys_eq ys xs ≡ false
keys_lt_apart xs ys e =
    ⊎_elim
    (λ same. absurd (keys_lt_self xs (ap (keys_lt xs) (sym (keys_same ys xs same)) ∙ e)))
    (λ other. other)
    (bool_cases (keys_eq ys xs))

pub keys_apart : (xs ys : List ℤ) → (xs ≡ ys → ⊥) → keys_eq xs ys ≡ false
keys_apart xs ys h =
    ⊎_elim (λ same. absurd (h (keys_same xs ys same))) (λ other. other) (bool_cases (keys_eq xs ys))
