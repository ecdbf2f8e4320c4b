-- Things at places of lists.
use Rattle.std.proofs.Common.{◌≡◌, ℕ, zero, suc, ◌<◌, List, [], ◌∷◌, ◌++◌, length, refl, arith, ◌⊎◌, inl, inr}
use Rattle.std.specs.Prelude.{Some}
use Rattle.bg_formula.specs.Atoms.{at}

abbrev pub Among : {A : Type 0} → List A → A → Type 0
Among xs x = (k : ℕ) × (at xs k ≡ Some x)

pub at_before : {A : Type 0} (xs ys : List A) (k : ℕ) (x : A) → at xs k ≡ Some x → at (xs ++ ys) k ≡ Some x
at_before [] ys k x h = absurd (cc)
at_before (y ∷ xs) ys zero x h = h
at_before (y ∷ xs) ys (suc k) x h = at_before xs ys k x h

pub at_last : {A : Type 0} (xs : List A) (x : A) → at (xs ++ (x ∷ [])) (length xs) ≡ Some x
at_last [] x = refl
at_last (y ∷ xs) x = at_last xs x

pub at_low : {A : Type 0} (xs : List A) (k : ℕ) (x : A) → at xs k ≡ Some x → k < length xs
at_low [] k x h = absurd (cc)
at_low (y ∷ xs) zero x h = omega arith
at_low (y ∷ xs) (suc k) x h = let l = at_low xs k x h in omega arith

pub among_left : {A : Type 0} (xs ys : List A) (x : A) → Among xs x → Among (xs ++ ys) x
among_left xs ys x h = (h.0, at_before xs ys h.0 x h.1)

pub among_right : {A : Type 0} (xs ys : List A) (x : A) → Among ys x → Among (xs ++ ys) x
among_right [] ys x h = h
among_right (y ∷ xs) ys x h = let r = among_right xs ys x h in (suc r.0, r.1)

pub among_parts : {A : Type 0} (xs ys : List A) (x : A) → Among (xs ++ ys) x → Among xs x ⊎ Among ys x
among_parts {A = A} xs ys x h = at_parts xs h.0 h.1
  where
    at_parts : (zs : List A) (k : ℕ) → at (zs ++ ys) k ≡ Some x → Among zs x ⊎ Among ys x
    at_parts [] k e = inr (k, e)
    at_parts (z ∷ zs) zero e = inl (zero, e)
    at_parts (z ∷ zs) (suc k) e =
        elim (at_parts zs k e) [ inl g ↦ inl (suc g.0, g.1) | inr g ↦ inr g ]
