-- Lists: what a node more, a front and a rest have.
use Rattle.std.proofs.Common.{◌≡◌, ℕ, zero, suc, ◌+◌, ◌-◌, ◌<◌, ◌≤◌, ◌⊎◌, inl, inr, List, [], ◌∷◌, ◌++◌, length, get_or, take, drop, slice_get, Some, None, Contains, sym, ◌∙◌, ap, subst, refl, arith}
use Rattle.std.proofs.lemmas.List.{take_more, get_or-drop, length-drop, get_or-take, length-take}
use Rattle.std.proofs.lemmas.List.Elements.{Contains-push_cases, Contains-push, Contains-append_left}
use Rattle.std.proofs.lemmas.Option.{slice_get_within, slice_get_read, get_or_from_slice_get}
use Rattle.bg_graph.specs.Rings.{IsFront, Rises}

module _ (row : List ℕ) (i : ℕ) (h : i < length row) where
  pub more_cases : (v : ℕ) → Contains (take (i + 1) row) v → Contains (take i row) v ⊎ (get_or row i 0 ≡ v)
  more_cases v c = let P : List ℕ → Type 0 = λ l. Contains l v in Contains-push_cases (take i row) (get_or row i 0) v (subst P (take_more row i 0 h) c)

  pub more_old : (v : ℕ) → Contains (take i row) v → Contains (take (i + 1) row) v
  more_old v c = let P : List ℕ → Type 0 = λ l. Contains l v in subst P (sym (take_more row i 0 h)) (Contains-append_left (take i row) (get_or row i 0 ∷ []) v c)

  pub more_new : Contains (take (i + 1) row) (get_or row i 0)
  more_new = let P : List ℕ → Type 0 = λ l. Contains l (get_or row i 0) in subst P (sym (take_more row i 0 h)) (Contains-push (take i row) (get_or row i 0))

pub push_old : {A : Type 0} (xs : List A) (y : A) (i : ℕ) (v : A) → slice_get xs i ≡ Some v → slice_get (xs ++ y ∷ []) i ≡ Some v
push_old [] y i v e = let bad : None ≡ Some v = e in absurd (cc)
push_old (x ∷ xs) y zero v e = e
push_old (x ∷ xs) y (suc i) v e = push_old xs y i v e

pub push_new : {A : Type 0} (xs : List A) (y : A) → slice_get (xs ++ y ∷ []) (length xs) ≡ Some y
push_new [] y = refl
push_new (x ∷ xs) y = push_new xs y

pub push_cases : {A : Type 0} (xs : List A) (y : A) (i : ℕ) (v : A) → slice_get (xs ++ y ∷ []) i ≡ Some v → (slice_get xs i ≡ Some v) ⊎ ((i ≡ length xs) × (y ≡ v))
push_cases [] y zero v e = let is : y ≡ v = cc in inr (refl, is)
push_cases [] y (suc i) v e = let bad : None ≡ Some v = e in absurd (cc)
push_cases (x ∷ xs) y zero v e = inl e
push_cases (x ∷ xs) y (suc i) v e = elim (push_cases xs y i v e) [ inl old ↦ inl old | inr new ↦ inr (ap suc new.0, new.1) ]

pub take_get : {A : Type 0} (b : ℕ) (xs : List A) (i : ℕ) (v : A) → slice_get (take b xs) i ≡ Some v → (slice_get xs i ≡ Some v) × (i < b)
take_get zero xs i v e = let bad : None ≡ Some v = e in absurd (cc)
take_get (suc b) [] i v e = let bad : None ≡ Some v = e in absurd (cc)
take_get (suc b) (x ∷ xs) zero v e = (e, omega arith)
take_get (suc b) (x ∷ xs) (suc i) v e = let r = take_get b xs i v e in (r.0, omega (arith, r.1))

pub get_take : {A : Type 0} (b : ℕ) (xs : List A) (i : ℕ) (v : A) → slice_get xs i ≡ Some v → i < b → slice_get (take b xs) i ≡ Some v
get_take zero xs i v e h = absurd (omega arith)
get_take (suc b) [] i v e h = e
get_take (suc b) (x ∷ xs) zero v e h = e
get_take (suc b) (x ∷ xs) (suc i) v e h = get_take b xs i v e (omega arith)

pub in_rest : (b : ℕ) (xs : List ℕ) (i v : ℕ) → slice_get xs i ≡ Some v → b ≤ i → Contains (drop b xs) v
in_rest b xs i v e h =
    let l = slice_get_within xs i v e in
    let n = length-drop b xs in
    let same : b + (i - b) ≡ i = omega arith in
    (i - b, omega arith, get_or-drop b xs (i - b) v ∙ (ap (λ (k : ℕ). get_or xs k v) same ∙ get_or_from_slice_get xs i v v e))

pub rest_at : (b : ℕ) (xs : List ℕ) (v : ℕ) → Contains (drop b xs) v → (i : ℕ) × (b ≤ i) × (slice_get xs i ≡ Some v)
rest_at b xs v c =
    let n = length-drop b xs in let k : c.0 < length (drop b xs) = c.1 in
    (b + c.0, omega arith, slice_get_read xs (length xs) (b + c.0) v refl (omega arith) (sym (sym (get_or-drop b xs c.0 v) ∙ c.2)))

pub same_node : {A : Type 0} (xs : List A) (i : ℕ) (v w : A) → slice_get xs i ≡ Some v → slice_get xs i ≡ Some w → v ≡ w
same_node xs i v w a b = cc

-- ---- starts
pub front_rises : (xs ys : List ℕ) → IsFront xs ys → Rises ys → Rises xs
front_rises xs ys f r j k h l = let s = f.short in let a = f.same j (omega arith) in let b = f.same k l in let c = r j k h (omega arith) in omega arith

pub front_through : (xs ys zs : List ℕ) → IsFront xs ys → IsFront ys zs → IsFront xs zs
front_through xs ys zs f g = record { short = let a = f.short in let b = g.short in omega arith; same = λ k h. f.same k h ∙ g.same k (let a = f.short in omega arith) }

pub front_take : (n : ℕ) (xs : List ℕ) → n ≤ length xs → IsFront (take n xs) xs
front_take n xs h = record { short = let a = length-take n xs in omega arith; same = λ k l. get_or-take n xs k 0 (let a = length-take n xs in omega arith) }
