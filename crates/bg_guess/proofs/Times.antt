-- How often a number stands in a list, and in a row of numbers.
use Rattle.std.proofs.Common.{◌≡◌, ℕ, ◌+◌, ◌<◌, ◌≤◌, Bool, true, false, ◌&&◌, List, [], ◌∷◌, ◌++◌, refl, ap, ◌∙◌, arith, ◌⊎◌, inl, inr, nat_eq}
use Rattle.std.specs.Prelude.{nat_le, nat_lt}
use Rattle.std.proofs.lemmas.Bool.Decides.{nat_tests}
use Rattle.bg_sense.specs.Resolved.{AreDifferent}
use Rattle.bg_sense.proofs.Members.{In, member, contained}

abbrev pub one_if : Bool → ℕ
one_if true = 1
one_if false = 0

abbrev pub times : ℕ → List ℕ → ℕ
times x [] = 0
times x (y ∷ ys) = one_if (nat_eq y x) + times x ys

pub times_append : (x : ℕ) (ys zs : List ℕ) → times x (ys ++ zs) ≡ times x ys + times x zs
times_append x [] zs = omega arith
times_append x (y ∷ ys) zs = let e = times_append x ys zs in omega (arith, e)

-- whether a number is one of the c numbers from n on
abbrev pub within : ℕ → ℕ → ℕ → ℕ
within n c x = one_if (nat_le n x && nat_lt x (n + c))

abbrev pub Place : ℕ → ℕ → ℕ → Type 0
Place n c x = ((within n c x ≡ 1) × ((n ≤ x) × (x < n + c))) ⊎ ((within n c x ≡ 0) × ((x < n) ⊎ (n + c ≤ x)))

pub place : (n c x : ℕ) → Place n c x
place n c x = by (nat_le n x) (nat_lt x (n + c)) refl refl
  where
    by : (a d : Bool) → nat_le n x ≡ a → nat_lt x (n + c) ≡ d → Place n c x
    by true true e f = inl (ap (λ (z : Bool). one_if (z && nat_lt x (n + c))) e ∙ ap one_if f, ((grind (arith, nat_tests)), (grind (arith, nat_tests))))
    by true false e f = inr (ap (λ (z : Bool). one_if (z && nat_lt x (n + c))) e ∙ ap one_if f, inr (grind (arith, nat_tests)))
    by false d e f = inr (ap (λ (z : Bool). one_if (z && nat_lt x (n + c))) e, inl (grind (arith, nat_tests)))

abbrev pub Hit : ℕ → ℕ → Type 0
Hit y x = ((one_if (nat_eq y x) ≡ 1) × (y ≡ x)) ⊎ ((one_if (nat_eq y x) ≡ 0) × ((y < x) ⊎ (x < y)))

pub hit : (y x : ℕ) → Hit y x
hit y x = by (nat_eq y x) refl
  where
    by : (a : Bool) → nat_eq y x ≡ a → Hit y x
    by true e = inl (ap one_if e, grind (arith, nat_tests))
    by false e = inr (ap one_if e, grind (arith, nat_tests))

pub within_none : (n x : ℕ) → within n 0 x ≡ 0
within_none n x = let p = place n 0 x in omega (arith, p)

pub within_one : (n x : ℕ) → one_if (nat_eq n x) ≡ within n 1 x
within_one n x = let p = place n 1 x in let h = hit n x in omega (arith, p, h)

pub within_join : (n m a c x : ℕ) → m ≡ n + a → within n (a + c) x ≡ within n a x + within m c x
within_join n m a c x e = let p = place n (a + c) x in let q = place n a x in let r = place m c x in omega (arith, p, q, r, e)

pub within_most : (n c x : ℕ) → within n c x ≤ 1
within_most n c x = let p = place n c x in omega (arith, p)

-- a number that stands in a list stands there at least once
pub stands : (x : ℕ) (ys : List ℕ) → In ys x → 1 ≤ times x ys
stands x [] i = absurd i
stands x (y ∷ ys) (inl e) = let h = hit y x in omega (arith, h, e)
stands x (y ∷ ys) (inr i) = let h = stands x ys i in omega (arith, h)

absent : (x : ℕ) (ys : List ℕ) → (In ys x → ⊥) → times x ys ≡ 0
absent x [] h = refl
absent x (y ∷ ys) h = by (hit y x) (absent x ys (λ i. h (inr i)))
  where
    by : Hit y x → times x ys ≡ 0 → one_if (nat_eq y x) + times x ys ≡ 0
    by (inl e) k = absurd (h (inl e.1))
    by (inr e) k = let z = e.0 in omega (arith, z, k)

-- lists in which no number stands twice
pub different : (ys : List ℕ) → ((x : ℕ) → times x ys ≤ 1) → AreDifferent ys
different [] h = tt
different (y ∷ ys) h = (
  (λ c. let s = stands y ys (member ys y c) in let t = h y in let k = hit y y in let bad : ⊥ = omega (arith, s, t, k) in bad),
  different ys (λ x. let t = h x in omega (arith, t)),
)

pub once : (ys : List ℕ) → AreDifferent ys → (x : ℕ) → times x ys ≤ 1
once [] h x = omega arith
once (y ∷ ys) h x = by (hit y x) (once ys h.1 x)
  where
    by : Hit y x → times x ys ≤ 1 → one_if (nat_eq y x) + times x ys ≤ 1
    by (inl e) k =
        let none = absent x ys (λ i. h.0 (rw (e.1) (contained ys x i))) in
        let z = e.0 in
        omega (arith, none, z)
    by (inr e) k = let z = e.0 in omega (arith, z, k)
