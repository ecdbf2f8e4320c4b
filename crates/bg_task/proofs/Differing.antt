-- Targets that differ.
use Rattle.std.proofs.Common.{◌≡◌, ℕ, zero, suc, Bool, true, false, List, [], ◌∷◌, ℤ, pos, ◌+ℤ◌, ◌≤ℤ◌, ◌⊎◌, inl, inr, refl, ap, arith}
use Rattle.std.specs.Prelude.{◌&&◌, Some, slice_get}
use Rattle.std.proofs.lemmas.Int.{ints}
use Rattle.bg_ast.specs.Values.{Ty}
use Rattle.bg_terms.specs.Terms.{Term}
use Rattle.bg_task.specs.Targets.{is_spread, are_spread, past_all, spread_from, targets_of}

and_none : (b : Bool) → (b && false) ≡ false
and_none true = refl
and_none false = refl

none_stands : (hs : List Ty) (j : ℕ) (z y : ℤ) (k : ℕ) → slice_get (spread_from z (are_spread j hs [])) k ≡ Some y → y ≡ pos 0
none_stands [] j z y k e = absurd (let bad : ⊥ = cc in bad)
none_stands (h ∷ hs) j z y zero e = let f = rw (and_none (is_spread h)) at e in cc
none_stands (h ∷ hs) j z y (suc k) e =
    let f = rw (and_none (is_spread h)) at e in
    none_stands hs (suc j) z y k f

-- without terms there is nothing to tell apart
pub without_terms : (hs : List Ty) (k : ℕ) (y : ℤ) → slice_get (targets_of hs []) k ≡ Some y → y ≡ pos 0
without_terms hs k y e = none_stands hs 0 (pos 1) y k e

-- each is 0, or one of those that come
at_least : (z : ℤ) (bs : List Bool) (k : ℕ) (y : ℤ) → slice_get (spread_from z bs) k ≡ Some y → (y ≡ pos 0) ⊎ (z ≤ℤ y)
at_least z [] k y e = absurd (let bad : ⊥ = cc in bad)
at_least z (true ∷ bs) zero y e = let is : z ≡ y = cc in inr (omega (arith, ints, is))
at_least z (true ∷ bs) (suc k) y e = by_case (at_least (z +ℤ pos 1) bs k y e)
  where
    by_case : (y ≡ pos 0) ⊎ ((z +ℤ pos 1) ≤ℤ y) → (y ≡ pos 0) ⊎ (z ≤ℤ y)
    by_case (inl h) = inl h
    by_case (inr h) = inr (omega (arith, ints, h))
at_least z (false ∷ bs) zero y e = inl (let is : pos 0 ≡ y = cc in omega (arith, ints, is))
at_least z (false ∷ bs) (suc k) y e = at_least z bs k y e

both_at : (z : ℤ) (bs : List Bool) (i j : ℕ) (y : ℤ) → slice_get (spread_from z bs) i ≡ Some y → slice_get (spread_from z bs) j ≡ Some y → (y ≡ pos 0) ⊎ (i ≡ j)
both_at z [] i j y e f = absurd (let bad : ⊥ = cc in bad)
both_at z (true ∷ bs) zero zero y e f = inr refl
both_at z (true ∷ bs) zero (suc j) y e f = by_case (at_least (z +ℤ pos 1) bs j y f)
  where
    by_case : (y ≡ pos 0) ⊎ ((z +ℤ pos 1) ≤ℤ y) → (y ≡ pos 0) ⊎ (zero ≡ suc j)
    by_case (inl h) = inl h
    by_case (inr h) = let is : z ≡ y = cc in absurd (omega (arith, ints, h, is))
both_at z (true ∷ bs) (suc i) zero y e f = by_case (at_least (z +ℤ pos 1) bs i y e)
  where
    by_case : (y ≡ pos 0) ⊎ ((z +ℤ pos 1) ≤ℤ y) → (y ≡ pos 0) ⊎ (suc i ≡ zero)
    by_case (inl h) = inl h
    by_case (inr h) = let is : z ≡ y = cc in absurd (omega (arith, ints, h, is))
both_at z (true ∷ bs) (suc i) (suc j) y e f = next (both_at (z +ℤ pos 1) bs i j y e f)
  where
    next : (y ≡ pos 0) ⊎ (i ≡ j) → (y ≡ pos 0) ⊎ (suc i ≡ suc j)
    next (inl h) = inl h
    next (inr h) = inr (ap (λ k. suc k) h)
both_at z (false ∷ bs) zero j y e f = inl (let is : pos 0 ≡ y = cc in omega (arith, ints, is))
both_at z (false ∷ bs) (suc i) zero y e f = inl (let is : pos 0 ≡ y = cc in omega (arith, ints, is))
both_at z (false ∷ bs) (suc i) (suc j) y e f = next (both_at z bs i j y e f)
  where
    next : (y ≡ pos 0) ⊎ (i ≡ j) → (y ≡ pos 0) ⊎ (suc i ≡ suc j)
    next (inl h) = inl h
    next (inr h) = inr (ap (λ k. suc k) h)

-- of two there is none but 0 that is the same
pub differ : (hs : List Ty) (ts : List Term) (i j : ℕ) (y : ℤ) → slice_get (targets_of hs ts) i ≡ Some y → slice_get (targets_of hs ts) j ≡ Some y → (y ≡ pos 0) ⊎ (i ≡ j)
differ hs ts i j y e f = both_at (past_all (pos 1) ts) (are_spread 0 hs ts) i j y e f
