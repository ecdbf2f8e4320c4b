-- Rows of results.
use Rattle.std.proofs.Common.{◌≡◌, ℕ, zero, suc, ◌+◌, ◌<◌, List, [], ◌∷◌, ◌++◌, length, get_or, drop, All, Option, Some, None, IfSome, refl, sym, ap, ◌∙◌, subst, arith}
use Rattle.std.specs.Prelude.{slice_get}
use Rattle.std.specs.Fn.{FnReturns}
use Rattle.std.proofs.lemmas.List.{drop-drop, length-drop, length-append}
use denote.Param.Members.{Shared}
use Rattle.bg_turns.specs.Turns.{Fits}

pub all_front : {A : Type 0} (P : A → Type 0) (xs : List A) (x : A) (ys : List A) → xs ≡ x ∷ ys → All P xs → P x
all_front P xs x ys is h = (subst (All P) is h) 0 x (omega arith)

pub all_behind : {A : Type 0} (P : A → Type 0) (xs : List A) (x : A) (ys : List A) → xs ≡ x ∷ ys → All P xs → All P ys
all_behind P xs x ys is h = λ k d l. (subst (All P) is h) (suc k) d (omega (arith, l))

-- what is so of each item is so behind which one more stands
more_at : {A : Type 0} (P : ℕ → A → Type 0) (xs : List A) (x : A) (k : ℕ) (d : A) → k < suc (length xs) → ((j : ℕ) → j < length xs → P j (get_or xs j d)) → P (length xs) x → P k (get_or (xs ++ (x ∷ [])) k d)
more_at P [] x zero d l all one = one
more_at P [] x (suc k) d l all one = absurd (omega (arith, l))
more_at P (y ∷ xs) x zero d l all one = all 0 (omega arith)
more_at P (y ∷ xs) x (suc k) d l all one = more_at (λ j. P (suc j)) xs x k d (omega (arith, l)) (λ j h. all (suc j) (omega (arith, h))) one

pub one_more : {A : Type 0} (P : ℕ → A → Type 0) (xs ys : List A) (x : A) → ys ≡ xs ++ (x ∷ []) → ((k : ℕ) (d : A) → k < length xs → P k (get_or xs k d)) → P (length xs) x → (k : ℕ) (d : A) → k < length ys → P k (get_or ys k d)
one_more P xs ys x is all one k d l =
    let e : length ys ≡ length xs + 1 = ap length is ∙ length-append xs (x ∷ []) in
    subst (λ zs. P k (get_or zs k d)) (sym is) (more_at P xs x k d (omega (arith, l, e)) (λ j. all j d) one)

get_drop : {A : Type 0} (xs : List A) (n : ℕ) → slice_get xs n ≡ slice_get (drop n xs) 0
get_drop [] zero = refl
get_drop [] (suc n) = refl
get_drop (x ∷ xs) zero = refl
get_drop (x ∷ xs) (suc n) = get_drop xs n

-- the item at which a row goes on, and what goes on behind it
pub goes_on : {A : Type 0} (xs rest ys : List A) (n : ℕ) (x : A) → rest ≡ drop n xs → rest ≡ x ∷ ys → (slice_get xs n ≡ Some x) × ((ys ≡ drop (n + 1) xs) × (n < length xs))
goes_on xs rest ys n x is at =
    let e : drop n xs ≡ x ∷ ys = sym is ∙ at in
    let some : length (drop n xs) ≡ suc (length ys) = ap length e in
    let long = length-drop n xs in
    (get_drop xs n ∙ ap (λ zs. slice_get zs 0) e, (sym (ap (drop 1) e) ∙ drop-drop 1 n xs, omega (arith, some, long)))

module _ {F R : Type 0} (g : Shared F (ℕ × Unit {0}) R) (f : F) where
  -- a slot that isn't empty has what a call gave
  pub slot_fits : (slots : List (Option R)) (n : ℕ) (slot : Option R) → Fits g f slots → slice_get slots n ≡ Some slot → IfSome slot (FnReturns g f (n, tt))
  slot_fits slots n None h e = tt
  slot_fits slots n (Some x) h e = h n x e
