-- A place in a list behind another.
use Rattle.std.proofs.Common.{◌≡◌, ℕ, zero, suc, ◌+◌, ◌-◌, ◌<◌, ◌≤◌, List, [], ◌∷◌, ◌++◌, length, map, take, drop, refl, ap, sym, ◌∙◌, arith}
use Rattle.std.specs.Prelude.{slice_get}
use Rattle.std.proofs.lemmas.List.{take_rest}
use Rattle.bg_keep.proofs.Rows.{drop_map, drop_end}

pub in_front : {A B : Type 0} (f : A → B) (xs : List A) (ys : List B) (k : ℕ) → k < length xs → slice_get (map f xs ++ ys) k ≡ slice_get (map f xs) k
in_front f [] ys k lt = absurd (omega (arith, lt))
in_front f (x ∷ xs) ys zero lt = refl
in_front f (x ∷ xs) ys (suc k) lt = in_front f xs ys k (omega (arith, lt))

pub in_back : {A B : Type 0} (f : A → B) (xs : List A) (ys : List B) (k : ℕ) → length xs ≤ k → slice_get (map f xs ++ ys) k ≡ slice_get ys (k - length xs)
in_back f [] ys k le = ap (slice_get ys) (let e : k ≡ k - 0 = omega arith in e)
in_back f (x ∷ xs) ys zero le = absurd (omega (arith, le))
in_back f (x ∷ xs) ys (suc k) le = in_back f xs ys k (omega (arith, le)) ∙ ap (slice_get ys) (let e : k - length xs ≡ suc k - suc (length xs) = omega arith in e)

-- what is behind a place, as seen
pub seen_behind : {A B : Type 0} (f : A → B) (xs : List A) (at : ℕ) → map f (take (length xs - at) (drop at xs)) ≡ drop at (map f xs)
seen_behind f xs at = ap (map f) (take_rest xs at) ∙ sym (drop_map f xs at)

pub none_behind : {A B : Type 0} (f : A → B) (xs : List A) (at : ℕ) → length xs ≤ at → [] ≡ drop at (map f xs)
none_behind f xs at le = sym (drop_map f xs at ∙ ap (map f) (drop_end xs at le))
