-- Lists from a place on, where items before it are replaced.
use Rattle.std.proofs.Common.{◌≡◌, ℕ, zero, suc, ◌+◌, ◌≤◌, List, [], ◌∷◌, drop, length, slice_set, map, refl, ap, sym, ◌∙◌, add-one, arith}
use Rattle.std.specs.Prelude.{get_or}
use Rattle.std.proofs.lemmas.List.{length-set, get_or-set_other}

behind_set : {A : Type 0} (xs : List A) (i : ℕ) (a : A) → drop (suc i) (slice_set xs i a) ≡ drop (suc i) xs
behind_set [] zero a = refl
behind_set [] (suc i) a = refl
behind_set (x ∷ xs) zero a = refl
behind_set (x ∷ xs) (suc i) a = behind_set xs i a

-- what is behind a place that is replaced
pub drop_set : {A : Type 0} (xs : List A) (i : ℕ) (a : A) → drop (i + 1) (slice_set xs i a) ≡ drop (i + 1) xs
drop_set xs i a = rw (add-one i) (behind_set xs i a)

next_is : {A : Type 0} (xs : List A) (i : ℕ) → drop 1 (drop i xs) ≡ drop (suc i) xs
next_is [] zero = refl
next_is [] (suc i) = refl
next_is (x ∷ xs) zero = refl
next_is (x ∷ xs) (suc i) = next_is xs i

pub drop_next : {A : Type 0} (xs : List A) (i : ℕ) → drop 1 (drop i xs) ≡ drop (i + 1) xs
drop_next xs i = rw (add-one i) (next_is xs i)

pub drop_end : {A : Type 0} (xs : List A) (i : ℕ) → length xs ≤ i → drop i xs ≡ []
drop_end [] zero h = refl
drop_end [] (suc i) h = refl
drop_end (x ∷ xs) zero h = absurd (omega (arith, h))
drop_end (x ∷ xs) (suc i) h = drop_end xs i (omega (arith, h))

pub drop_map : {A B : Type 0} (f : A → B) (xs : List A) (i : ℕ) → drop i (map f xs) ≡ map f (drop i xs)
drop_map f [] zero = refl
drop_map f [] (suc i) = refl
drop_map f (x ∷ xs) zero = refl
drop_map f (x ∷ xs) (suc i) = drop_map f xs i

-- the place behind a place, and the end
pub place_inside : {A B : Type 0} (f : A → B) (xs : List A) (at : ℕ) → drop (at + 1) (map f xs) ≡ drop 1 (drop at (map f xs))
place_inside f xs at = sym (drop_next (map f xs) at)

pub place_end : {A B : Type 0} (f : A → B) (xs : List A) (at : ℕ) → length xs ≤ at → drop at (map f xs) ≡ drop 1 (drop at (map f xs))
place_end f xs at le =
    let none : drop at (map f xs) ≡ [] = drop_map f xs at ∙ ap (map f) (drop_end xs at le) in
    none ∙ sym (ap (drop 1) none)

-- what is behind a place stays, where the item there is replaced
pub unvisited : {A : Type 0} (xs ys : List A) (i : ℕ) (a : A) → (length xs ≡ length ys) × ((k : ℕ) (d : A) → i ≤ k → get_or xs k d ≡ get_or ys k d) →
    (length (slice_set xs i a) ≡ length ys) × ((k : ℕ) (d : A) → i + 1 ≤ k → get_or (slice_set xs i a) k d ≡ get_or ys k d)
unvisited xs ys i a h =
    (length-set xs i a ∙ h.0, λ k d lt. get_or-set_other xs i k a d (omega arith) ∙ h.1 k d (omega arith))

pub at_place : {A : Type 0} (xs : List A) (i : ℕ) (p q : A) → p ≡ get_or xs i q → q ≡ get_or xs i q → p ≡ get_or xs i p
at_place xs i p q e is = e ∙ ap (λ d. get_or xs i d) (sym (e ∙ sym is))
