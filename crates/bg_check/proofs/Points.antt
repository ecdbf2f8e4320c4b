-- A point is read from its last spot on, and numbers and values are made one after the other.
use Rattle.std.proofs.Common.{◌≡◌, ℕ, zero, suc, ◌+◌, ◌<◌, ◌≤◌, ℤ, pos, Bool, false, if◌then◌else◌, List, [], ◌∷◌, ◌++◌, length, refl, sym, ap, ◌∙◌, get_or, drop, add-one, drop-cons, append_assoc, append-nil, arith}
use Rattle.std.specs.Prelude.{slice_get, slice_set, unwrap_or}
use Rattle.bg_point.specs.declared.spot.Spot.{Spot}
use Rattle.bg_linear.specs.declared.scalar.Sort.{Sort}
use Rattle.bg_atoms.specs.Ranks.{one_for}
use Rattle.bg_scalar.specs.declared.scalar.Scalar.{Scalar}
use Rattle.bg_check.specs.Leaves.{numbered, unnamed_by, scalar_for, scalars_from}

-- the last spot is set first
last_spot : (before : List Spot) (s : Spot) (zs : List ℤ) → numbered (before ++ (s ∷ [])) zs ≡ numbered before (slice_set zs s.variable s.value)
last_spot [] s zs = refl
last_spot (b ∷ before) s zs = ap (λ l. slice_set l b.variable b.value) (last_spot before s zs)

pub next_spot : (left before spots : List Spot) (s : Spot) (old new zs : List ℤ) → left ≡ before ++ (s ∷ []) → new ≡ slice_set old s.variable s.value → numbered left old ≡ numbered spots zs → numbered before new ≡ numbered spots zs
next_spot left before spots s old new zs e g h =
    ap (numbered before) g ∙ (sym (last_spot before s old) ∙ (ap (λ l. numbered l old) (sym e) ∙ h))

from_item : {A : Type 0} (sorts : List A) (j : ℕ) (s : A) → j < length sorts → s ≡ get_or sorts j s → drop j sorts ≡ s ∷ drop (j + 1) sorts
from_item sorts j s h e = rw (add-one, drop-cons sorts j s) (ap (λ x. x ∷ drop (suc j) sorts) (sym e))

-- one more scalar
pub next_scalar : (ts : List Bool) (zs : List ℤ) (sorts : List Sort) (made all : List Scalar) (j n k : ℕ) (s : Sort) → j < length sorts → s ≡ get_or sorts j s → k ≡ n + one_for s → made ++ scalars_from ts zs j n (drop j sorts) ≡ all → (made ++ (scalar_for s (unwrap_or (slice_get zs j) (pos 0)) (unwrap_or (slice_get ts n) false) ∷ [])) ++ scalars_from ts zs (j + 1) k (drop (j + 1) sorts) ≡ all
next_scalar ts zs sorts made all j n k s l e g h =
    let rest = drop (j + 1) sorts in
    let x = scalar_for s (unwrap_or (slice_get zs j) (pos 0)) (unwrap_or (slice_get ts n) false) in
    append_assoc made (x ∷ []) (scalars_from ts zs (j + 1) k rest)
    ∙ (ap (λ i. made ++ (x ∷ scalars_from ts zs i k rest)) one_more
    ∙ (ap (λ i. made ++ (x ∷ scalars_from ts zs (suc j) i rest)) g
    ∙ (ap (λ l. made ++ scalars_from ts zs j n l) (sym (from_item sorts j s l e)) ∙ h)))
  where
    one_more : j + 1 ≡ suc j
    one_more = omega arith

dropped : {A : Type 0} (xs : List A) (j : ℕ) → length xs ≤ j → drop j xs ≡ []
dropped [] zero l = refl
dropped [] (suc j) l = refl
dropped (x ∷ xs) zero l = absurd (omega (arith, l))
dropped (x ∷ xs) (suc j) l = dropped xs j (omega (arith, l))

-- no more of them
pub no_more : (ts : List Bool) (zs : List ℤ) (sorts : List Sort) (made all : List Scalar) (j n : ℕ) → length sorts ≤ j → made ++ scalars_from ts zs j n (drop j sorts) ≡ all → made ≡ all
no_more ts zs sorts made all j n l h =
    sym (append-nil made) ∙ (ap (λ x. made ++ scalars_from ts zs j n x) (sym (dropped sorts j l)) ∙ h)

-- one more number without a point
pub next_unnamed : (targets : ℕ → ℤ) (named : List Bool) (made all : List ℤ) (j : ℕ) (b : Bool) → j < length named → b ≡ get_or named j b → made ++ unnamed_by targets j (drop j named) ≡ all → (made ++ ((if b then pos 0 else targets j) ∷ [])) ++ unnamed_by targets (j + 1) (drop (j + 1) named) ≡ all
next_unnamed targets named made all j b l e h =
    let rest = drop (j + 1) named in
    let z = if b then pos 0 else targets j in
    append_assoc made (z ∷ []) (unnamed_by targets (j + 1) rest)
    ∙ (ap (λ i. made ++ (z ∷ unnamed_by targets i rest)) one_more
    ∙ (ap (λ l. made ++ unnamed_by targets j l) (sym (from_item named j b l e)) ∙ h))
  where
    one_more : j + 1 ≡ suc j
    one_more = omega arith

pub none_unnamed : (targets : ℕ → ℤ) (named : List Bool) (made all : List ℤ) (j : ℕ) → length named ≤ j → made ++ unnamed_by targets j (drop j named) ≡ all → made ≡ all
none_unnamed targets named made all j l h =
    sym (append-nil made) ∙ (ap (λ x. made ++ unnamed_by targets j x) (sym (dropped named j l)) ∙ h)
