-- Lists of scalars that are the same.
use Rattle.std.proofs.Common.{◌≡◌, ℕ, zero, suc, ◌+◌, ◌<◌, ◌≤◌, Bool, true, false, List, [], ◌∷◌, length, get_or, drop, refl, sym, ap, ◌∙◌, arith}
use Rattle.std.specs.Prelude.{◌&&◌, ◌==◌}
use Rattle.std.proofs.lemmas.Bool.Decides.{nat_tests}
use Rattle.bg_ast.specs.Values.{val_eq}
use Rattle.bg_sense.specs.Eval.{vals_eq}
use Rattle.bg_sense.proofs.Order.{vals_same}
use Rattle.bg_sense.proofs.MapLaws.{val_eq_refl}
use Rattle.bg_scalar.specs.declared.scalar.Scalar.{Scalar}
use Rattle.bg_scalar.specs.Values.{val_of}
use Rattle.bg_wanted.specs.Scalars.{scalars_in}
use Rattle.bg_wanted.proofs.Settlement.{vals_known}

no_right : (a : Bool) → (a && false) ≡ false
no_right true = refl
no_right false = refl

pub other_length : (xs ys : List Scalar) → (length xs == length ys) ≡ false → vals_eq (scalars_in xs) (scalars_in ys) ≡ false
other_length [] [] h = absurd (let bad : ⊥ = cc in bad)
other_length [] (y ∷ ys) h = refl
other_length (x ∷ xs) [] h = refl
other_length (x ∷ xs) (y ∷ ys) h =
    ap (λ c. val_eq (val_of x) (val_of y) && c) (other_length xs ys (shorter (length xs) (length ys) h)) ∙ no_right (val_eq (val_of x) (val_of y))
  where
    shorter : (m n : ℕ) → (suc m == suc n) ≡ false → (m == n) ≡ false
    shorter m n h = grind (arith, nat_tests, h)

pub same_step : (xs ys : List Scalar) (i : ℕ) (d e : Scalar) → i < length xs → i < length ys → vals_eq (scalars_in (drop i xs)) (scalars_in (drop i ys)) ≡ (val_eq (val_of (get_or xs i d)) (val_of (get_or ys i e)) && vals_eq (scalars_in (drop (i + 1) xs)) (scalars_in (drop (i + 1) ys)))
same_step [] ys i d e h k = absurd (omega (arith, h))
same_step (x ∷ xs) [] i d e h k = absurd (omega (arith, k))
same_step (x ∷ xs) (y ∷ ys) zero d e h k = refl
same_step (x ∷ xs) (y ∷ ys) (suc i) d e h k =
    same_step xs ys i d e (omega (arith, h)) (omega (arith, k))
    ∙ ap (λ j. val_eq (val_of (get_or xs i d)) (val_of (get_or ys i e)) && vals_eq (scalars_in (drop j (x ∷ xs))) (scalars_in (drop j (y ∷ ys)))) (let q : suc (i + 1) ≡ suc i + 1 = omega arith in q)

nothing_left : (xs : List Scalar) (i : ℕ) → length xs ≤ i → drop i xs ≡ []
nothing_left [] zero h = refl
nothing_left [] (suc i) h = refl
nothing_left (x ∷ xs) zero h = absurd (omega (arith, h))
nothing_left (x ∷ xs) (suc i) h = nothing_left xs i (omega (arith, h))

pub same_end : (xs ys : List Scalar) (i : ℕ) → length xs ≤ i → length xs ≡ length ys → vals_eq (scalars_in (drop i xs)) (scalars_in (drop i ys)) ≡ true
same_end xs ys i h e =
    ap (λ l. vals_eq (scalars_in l) (scalars_in (drop i ys))) (nothing_left xs i h)
    ∙ ap (λ l. vals_eq [] (scalars_in l)) (nothing_left ys i (omega (arith, h, e)))

pub differs_here : (xs ys : List Scalar) (i : ℕ) (d e : Scalar) → i < length xs → i < length ys → val_eq (val_of (get_or xs i d)) (val_of (get_or ys i e)) ≡ false → vals_eq (scalars_in (drop i xs)) (scalars_in (drop i ys)) ≡ vals_eq (scalars_in xs) (scalars_in ys) → false ≡ vals_eq (scalars_in xs) (scalars_in ys)
differs_here xs ys i d e h k off so =
    sym (same_step xs ys i d e h k
    ∙ ap (λ c. c && vals_eq (scalars_in (drop (i + 1) xs)) (scalars_in (drop (i + 1) ys))) off)
    ∙ so

pub goes_on : (xs ys : List Scalar) (i : ℕ) (d e : Scalar) → i < length xs → i < length ys → val_eq (val_of (get_or xs i d)) (val_of (get_or ys i e)) ≡ true → vals_eq (scalars_in (drop i xs)) (scalars_in (drop i ys)) ≡ vals_eq (scalars_in xs) (scalars_in ys) → vals_eq (scalars_in (drop (i + 1) xs)) (scalars_in (drop (i + 1) ys)) ≡ vals_eq (scalars_in xs) (scalars_in ys)
goes_on xs ys i d e h k same so =
    sym (same_step xs ys i d e h k
    ∙ ap (λ c. c && vals_eq (scalars_in (drop (i + 1) xs)) (scalars_in (drop (i + 1) ys))) same)
    ∙ so

-- what this says of scalars
pub are_known : (xs ys : List Scalar) (b : Bool) → b ≡ vals_eq (scalars_in xs) (scalars_in ys) → b ≡ true → xs ≡ ys
are_known xs ys b e h = vals_known xs ys (vals_same (scalars_in xs) (scalars_in ys) (sym e ∙ h))

vals_refl : (xs : List Scalar) → vals_eq (scalars_in xs) (scalars_in xs) ≡ true
vals_refl [] = refl
vals_refl (x ∷ xs) = ap (λ c. c && vals_eq (scalars_in xs) (scalars_in xs)) (val_eq_refl (val_of x)) ∙ vals_refl xs

pub are_other : (xs ys : List Scalar) (b : Bool) → b ≡ vals_eq (scalars_in xs) (scalars_in ys) → b ≡ false → xs ≡ ys → ⊥
are_other xs ys b e h same =
    let yes : vals_eq (scalars_in xs) (scalars_in ys) ≡ true = ap (λ l. vals_eq (scalars_in xs) (scalars_in l)) (sym same) ∙ vals_refl xs in
    let bad : false ≡ true = sym h ∙ (e ∙ yes) in
    let no : ⊥ = cc in
    no
