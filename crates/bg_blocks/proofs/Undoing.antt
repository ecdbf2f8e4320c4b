-- Taking back the last mark, and all but the first ones.
use Rattle.std.proofs.Common.{◌≡◌, ℕ, zero, suc, ◌<◌, ◌≤◌, List, [], ◌∷◌, ◌++◌, length, take, drop, Option, refl, sym, ap, ◌∙◌, arith}
use Rattle.std.proofs.lemmas.List.{length-append}
use Rattle.bg_blocks.specs.Marks.{Marked, set_to, undone}

pub undone_last : (es : List (ℕ × Option ℕ)) (e : ℕ × Option ℕ) (marks : Marked) → undone (es ++ e ∷ []) marks ≡ undone es (set_to e.0 e.1 marks)
undone_last [] e marks = refl
undone_last (x ∷ es) e marks = ap (set_to x.0 x.1) (undone_last es e marks)

pub drop_last : {A : Type 0} (n : ℕ) (xs : List A) (x : A) → n ≤ length xs → drop n (xs ++ x ∷ []) ≡ drop n xs ++ x ∷ []
drop_last zero xs x h = refl
drop_last (suc n) [] x h = absurd (omega (arith, h))
drop_last (suc n) (y ∷ xs) x h = drop_last n xs x (omega (arith, h))

pub take_last : {A : Type 0} (n : ℕ) (xs : List A) (x : A) → n ≤ length xs → take n (xs ++ x ∷ []) ≡ take n xs
take_last zero xs x h = refl
take_last (suc n) [] x h = absurd (omega (arith, h))
take_last (suc n) (y ∷ xs) x h = ap (λ l. y ∷ l) (take_last n xs x (omega (arith, h)))

-- the last mark is taken back
pub one_back : (n : ℕ) (us vs : List (ℕ × Option ℕ)) (e : ℕ × Option ℕ) (marks marks' : Marked) → n ≤ length vs → us ≡ vs ++ e ∷ [] → marks' ≡ set_to e.0 e.1 marks → undone (drop n vs) marks' ≡ undone (drop n us) marks
one_back n us vs e marks marks' h is m =
    ap (undone (drop n vs)) m ∙ sym (ap (λ l. undone l marks) (ap (drop n) is ∙ drop_last n vs e h) ∙ undone_last (drop n vs) e marks)

pub front_back : (n : ℕ) (us vs : List (ℕ × Option ℕ)) (e : ℕ × Option ℕ) → n ≤ length vs → us ≡ vs ++ e ∷ [] → take n vs ≡ take n us
front_back n us vs e h is = sym (ap (take n) is ∙ take_last n vs e h)

pub drop_whole : {A : Type 0} (n : ℕ) (xs : List A) → length xs ≤ n → drop n xs ≡ []
drop_whole zero [] h = refl
drop_whole zero (x ∷ xs) h = absurd (omega (arith, h))
drop_whole (suc n) [] h = refl
drop_whole (suc n) (x ∷ xs) h = drop_whole n xs (omega (arith, h))

pub take_whole : {A : Type 0} (n : ℕ) (xs : List A) → length xs ≤ n → take n xs ≡ xs
take_whole zero [] h = refl
take_whole zero (x ∷ xs) h = absurd (omega (arith, h))
take_whole (suc n) [] h = refl
take_whole (suc n) (x ∷ xs) h = ap (λ l. x ∷ l) (take_whole n xs (omega (arith, h)))

-- what is left is long enough where more stood there
pub long_enough : {A : Type 0} (n : ℕ) (us vs : List A) (e : A) → us ≡ vs ++ e ∷ [] → n < length us → n ≤ length vs
long_enough n us vs e is h = omega (arith, h, ap length is, length-append vs (e ∷ []))
