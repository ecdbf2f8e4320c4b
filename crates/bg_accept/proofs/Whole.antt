-- A table of a program's places.
use Rattle.std.proofs.Common.{◌≡◌, ℕ, zero, suc, ◌+◌, ◌<◌, ◌≤◌, List, [], ◌∷◌, ◌++◌, length, refl, sym, ap, ◌∙◌, ◌⊎◌, inl, inr, arith}
use Rattle.std.specs.Prelude.{Some, None, Vec, slice_get}
use Rattle.std.specs.declared.alloc.Global.{Global}
use Rattle.std.proofs.lemmas.List.{length-append}
use Rattle.bg_ast.specs.Resolved as r
use Rattle.bg_places.specs.declared.place.Place.{Place}
use Rattle.bg_places.specs.Placed.{placed_impl}
use Rattle.bg_places.specs.Views.{placed_in}
use Rattle.bg_accept.specs.Accepted.{places_of, places_at}
use Rattle.bg_accept.specs.Tables.{listed, places_in}
use Rattle.bg_accept.specs.Places.{ArePlacesOf, ArePlaces}

abbrev Places : Type 0
Places = Vec Place Global

pub none_of : (p : r.Program) → ArePlacesOf p 0 []
none_of p = record { long = refl; places = λ k l. absurd (omega arith) }

at_before : (xs : List Places) (v : Places) (k : ℕ) → k < length xs → places_in (xs ++ (v ∷ [])) k ≡ places_in xs k
at_before [] v k l = absurd (omega arith)
at_before (x ∷ xs) v zero l = refl
at_before (x ∷ xs) v (suc k) l = at_before xs v k (omega arith)

at_end : (xs : List Places) (v : Places) → places_in (xs ++ (v ∷ [])) (length xs) ≡ placed_in v.items
at_end [] v = refl
at_end (x ∷ xs) v = at_end xs v

there_at : {A : Type 0} (xs : List A) (k : ℕ) → k < length xs → (x : A) × (slice_get xs k ≡ Some x)
there_at [] k l = absurd (omega arith)
there_at (x ∷ xs) zero l = (x, refl)
there_at (x ∷ xs) (suc k) l = there_at xs k (omega arith)

none_at : {A : Type 0} (xs : List A) (k : ℕ) → length xs ≤ k → slice_get xs k ≡ None
none_at [] k l = refl
none_at (x ∷ xs) zero l = absurd (omega arith)
none_at (x ∷ xs) (suc k) l = none_at xs k (omega arith)

pub last_or_before : (k n : ℕ) → k < n + 1 → (k < n) ⊎ (k ≡ n)
last_or_before zero zero h = inr refl
last_or_before zero (suc n) h = inl (omega arith)
last_or_before (suc k) zero h = absurd (omega arith)
last_or_before (suc k) (suc n) h = by (last_or_before k n (omega arith))
  where
    by : (k < n) ⊎ (k ≡ n) → (suc k < suc n) ⊎ (suc k ≡ suc n)
    by (inl l) = inl (omega (arith, l))
    by (inr e) = inr (ap suc e)

pub one_more_of : (p : r.Program) (n : ℕ) (made : List Places) (v : Places) → ArePlacesOf p n made → n < length p.implementations → ((m : r.Impl) → slice_get p.implementations n ≡ Some m → placed_in v.items ≡ placed_impl p.procedures n m) → ArePlacesOf p (n + 1) (made ++ (v ∷ []))
one_more_of p n made v h l f =
    record { long = length-append made (v ∷ []) ∙ ap (λ k. k + 1) h.long; places = λ k j. by k (last_or_before k n j) }
  where
    by : (k : ℕ) → (k < n) ⊎ (k ≡ n) → places_in (made ++ (v ∷ [])) k ≡ places_at p k
    by k (inl j) = let e = h.long in at_before made v k (omega (arith, e, j)) ∙ h.places k j
    by k (inr e) =
        let m = there_at p.implementations n l in
        ap (places_in (made ++ (v ∷ []))) (e ∙ sym h.long) ∙ (at_end made v ∙ (f m.0 m.1 ∙ (sym (ap (places_of p n) m.1) ∙ ap (places_at p) (sym e))))

pub all_of : (p : r.Program) (n : ℕ) (made : List Places) → n ≡ length p.implementations → ArePlacesOf p n made → ArePlaces p made
all_of p n made e h = record { long = h.long ∙ e; places = λ k. by k (split k n) }
  where
    split : (k n : ℕ) → (k < n) ⊎ (n ≤ k)
    split zero zero = inr (omega arith)
    split zero (suc n) = inl (omega arith)
    split (suc k) zero = inr (omega arith)
    split (suc k) (suc n) = next (split k n)
      where
        next : (k < n) ⊎ (n ≤ k) → (suc k < suc n) ⊎ (suc n ≤ suc k)
        next (inl l) = inl (omega (arith, l))
        next (inr l) = inr (omega (arith, l))

    by : (k : ℕ) → (k < n) ⊎ (n ≤ k) → places_in made k ≡ places_at p k
    by k (inl l) = h.places k l
    by k (inr l) =
        let g = h.long in
        ap listed (none_at made k (omega (arith, g, l))) ∙ sym (ap (places_of p k) (none_at p.implementations k (omega (arith, e, l))))
