-- Keys of maps, part by part.
use Rattle.std.proofs.Common.{◌≡◌, ◌≢◌, ℕ, zero, suc, ℤ, ◌+◌, ◌<◌, ◌≤◌, Bool, true, false, ◌&&◌, List, [], ◌∷◌, length, drop, refl, sym, ap, ◌∙◌, arith}
use Rattle.std.specs.Prelude.{nat_lt}
use Rattle.std.proofs.lemmas.Bool.Decides.{nat_tests}
use Rattle.bg_ast.specs.Values.{keys_eq, keys_lt}

and_false : (a b : Bool) → b ≡ false → (a && b) ≡ false
and_false true b h = h
and_false false b h = refl

pub keys_differ : (a b : List ℤ) → length a ≢ length b → keys_eq a b ≡ false
keys_differ [] [] h = absurd (h refl)
keys_differ [] (l ∷ ls) h = refl
keys_differ (k ∷ ks) [] h = refl
keys_differ (k ∷ ks) (l ∷ ls) h = and_false _ _ (keys_differ ks ls (λ e. h (ap suc e)))

-- ---- where one key is at its end

lt_yes : (j n : ℕ) → j < n → nat_lt j n ≡ true
lt_yes j n h = grind (arith, nat_tests)

lt_no : (j n : ℕ) → n ≤ j → nat_lt j n ≡ false
lt_no j n h = grind (arith, nat_tests)

lt_same : (b c : Bool) (j n : ℕ) → nat_lt j n ≡ b → nat_lt (suc j) (suc n) ≡ c → c ≡ b
lt_same true true j n h k = refl
lt_same true false j n h k = grind (arith, nat_tests)
lt_same false true j n h k = grind (arith, nat_tests)
lt_same false false j n h k = refl

step : (j n : ℕ) → nat_lt (suc j) (suc n) ≡ nat_lt j n
step j n = lt_same (nat_lt j n) (nat_lt (suc j) (suc n)) j n refl refl

nothing_below : (ks : List ℤ) → keys_lt ks [] ≡ false
nothing_below [] = refl
nothing_below (k ∷ ks) = refl

empty_before : (b : List ℤ) (i : ℕ) → nat_lt i (length b) ≡ keys_lt [] (drop i b)
empty_before [] zero = refl
empty_before [] (suc i) = lt_no (suc i) 0 (omega arith)
empty_before (y ∷ ys) zero = lt_yes zero (suc (length ys)) (omega arith)
empty_before (y ∷ ys) (suc i) = step i (length ys) ∙ empty_before ys i

pub ends : (a b : List ℤ) (i : ℕ) → (i < length a → i < length b → ⊥) → nat_lt i (length b) ≡ keys_lt (drop i a) (drop i b)
ends [] b zero f = empty_before b zero
ends [] b (suc i) f = empty_before b (suc i)
ends (x ∷ xs) [] zero f = refl
ends (x ∷ xs) (y ∷ ys) zero f = absurd (f (omega arith) (omega arith))
ends (x ∷ xs) [] (suc i) f = lt_no (suc i) 0 (omega arith) ∙ sym (nothing_below (drop i xs))
ends (x ∷ xs) (y ∷ ys) (suc i) f =
    step i (length ys) ∙ ends xs ys i (λ l m. f (omega (arith, l)) (omega (arith, m)))
