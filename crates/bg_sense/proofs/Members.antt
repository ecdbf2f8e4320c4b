-- Members of lists, and lists without repetition.
use Rattle.std.proofs.Common.{◌≡◌, ℕ, zero, suc, ◌<◌, List, [], ◌∷◌, ◌++◌, length, Some, sym, subst, arith, inl, inr, ⊎_elim}
use Rattle.std.specs.Prelude.{◌⊎◌, slice_get, slice_index_or, Contains}
use Rattle.bg_sense.specs.Resolved.{AreDifferent}

abbrev pub In : {A : Type 0} → List A → A → Type 0
In [] u = ⊥
In (v ∷ vs) u = (v ≡ u) ⊎ In vs u

pub in_left : {A : Type 0} (us vs : List A) (u : A) → In us u → In (us ++ vs) u
in_left [] vs u h = absurd h
in_left (x ∷ us) vs u (inl e) = inl e
in_left (x ∷ us) vs u (inr h) = inr (in_left us vs u h)

pub in_right : {A : Type 0} (us vs : List A) (u : A) → In vs u → In (us ++ vs) u
in_right [] vs u h = h
in_right (x ∷ us) vs u h = inr (in_right us vs u h)

pub in_either : {A : Type 0} (us vs : List A) (u : A) → In (us ++ vs) u → In us u ⊎ In vs u
in_either [] vs u h = inr h
in_either (x ∷ us) vs u (inl e) = inl (inl e)
in_either (x ∷ us) vs u (inr h) = ⊎_elim (λ i. inl (inr i)) (λ i. inr i) (in_either us vs u h)

pub contained : {A : Type 0} (us : List A) (u : A) → In us u → Contains us u
contained [] u h = absurd h
contained (x ∷ us) u (inl e) = (0, omega arith, e)
contained (x ∷ us) u (inr h) =
    let r = contained us u h in
    let lt = r.1 in
    (suc r.0, omega arith, r.2)

pub member_at : {A : Type 0} (us : List A) (u : A) (k : ℕ) → k < length us → slice_index_or us k u ≡ u → In us u
member_at [] u k lt e = absurd (omega arith)
member_at (x ∷ us) u zero lt e = inl e
member_at (x ∷ us) u (suc k) lt e = inr (member_at us u k (omega arith) e)

pub member : {A : Type 0} (us : List A) (u : A) → Contains us u → In us u
member us u c = member_at us u c.0 c.1 c.2

pub in_at : {A : Type 0} (us : List A) (k : ℕ) (u : A) → slice_get us k ≡ Some u → In us u
in_at [] k u e = absurd (let bad : ⊥ = cc in bad)
in_at (x ∷ us) zero u e = inl (let same : x ≡ u = cc in same)
in_at (x ∷ us) (suc k) u e = inr (in_at us k u e)

-- no number stands twice
abbrev pub Different : List ℕ → Type 0
Different [] = Unit {0}
Different (n ∷ ns) = (In ns n → ⊥) × Different ns

pub different : (ns : List ℕ) → AreDifferent ns → Different ns
different [] h = tt
different (n ∷ ns) h = (λ i. h.0 (contained ns n i), different ns h.1)

pub different_left : (ms ns : List ℕ) → Different (ms ++ ns) → Different ms
different_left [] ns h = tt
different_left (m ∷ ms) ns h = (λ i. h.0 (in_left ms ns m i), different_left ms ns h.1)

pub different_right : (ms ns : List ℕ) → Different (ms ++ ns) → Different ns
different_right [] ns h = h
different_right (m ∷ ms) ns h = different_right ms ns h.1

pub different_apart : (ms ns : List ℕ) → Different (ms ++ ns) → (n : ℕ) → In ms n → In ns n → ⊥
different_apart [] ns h n i j = i
different_apart (m ∷ ms) ns h n (inl e) j = h.0 (in_right ms ns m (subst (In ns) (sym e) j))
different_apart (m ∷ ms) ns h n (inr i) j = different_apart ms ns h.1 n i j
