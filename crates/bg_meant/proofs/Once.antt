-- Lists whose members mean one another, and names that are declared once.
use Rattle.std.proofs.Common.{◌≡◌, ℕ, Bool, true, false, List, [], ◌∷◌, ◌++◌, map, flat_map, refl, sym, ap, ◌∙◌, subst, inl, inr}
use Rattle.std.specs.Prelude.{◌||◌, not, if◌then◌else◌}
use Rattle.std.specs.Str.{bytes_eq}
use Rattle.std.proofs.lemmas.Bool.{not-true}
use Rattle.std.proofs.lemmas.List.Folds.{list_any-append}
use Rattle.std.proofs.lemmas.Slice.Eq.{bytes_eq-Decides}
use Rattle.bg_text.specs.Trees as t
use Rattle.bg_names.specs.declared.error.FaultKind.TheVariants as kinds
use Rattle.bg_names.specs.Faults.{Fault, fault, unless}
use Rattle.bg_names.specs.Spaces.{has_name, with_name, repeats}
use Rattle.bg_spaces.specs.Declarations.{text_of}
use Rattle.bg_sense.proofs.Members.{In, contained, member}
use Rattle.bg_named.proofs.ExprsBits.{never, holds}
use Rattle.bg_named.proofs.SpacesOnce.{empty_parts}
use Rattle.bg_named.proofs.StmtsMembers.{or_left, or_right}
use Rattle.bg_meant.specs.Once.{Match, Joined, AreOnce}
use Rattle.bg_meant.proofs.Meanings.{both}

-- ---- members that mean one another

module _ {A B : Type 0} (R : A → B → Type 0) (faults : A → List Fault) (name : A → B) where
  pub match_fine : ((x : A) (y : B) → R x y → (faults x ≡ []) × (name x ≡ y)) → (xs : List A) (ys : List B) → Match R xs ys → (flat_map faults xs ≡ []) × (map name xs ≡ ys)
  match_fine f [] [] h = (refl, refl)
  match_fine f [] (y ∷ ys) h = absurd h
  match_fine f (x ∷ xs) [] h = absurd h
  match_fine f (x ∷ xs) (y ∷ ys) h =
      let w = f x y h.0 in
      let v = match_fine f xs ys h.1 in
      (both (faults x) (flat_map faults xs) w.0 v.0, ap (λ (z : B). z ∷ map name xs) w.1 ∙ ap (λ (l : List B). y ∷ l) v.1)

  pub match_mean : ((x : A) → faults x ≡ [] → R x (name x)) → (xs : List A) → flat_map faults xs ≡ [] → Match R xs (map name xs)
  match_mean f [] h = tt
  match_mean f (x ∷ xs) h =
      let w = empty_parts (faults x) (flat_map faults xs) h in
      (f x w.0, match_mean f xs w.1)

pub none_faulty : {A : Type 0} (faults : A → List Fault) (xs : List A) → ((x : A) → In xs x → faults x ≡ []) → flat_map faults xs ≡ []
none_faulty faults [] h = refl
none_faulty faults (x ∷ xs) h = both (faults x) (flat_map faults xs) (h x (inl refl)) (none_faulty faults xs (λ y i. h y (inr i)))

module _ {A B : Type 0} (R : A → List B → Type 0) (faults : A → List Fault) (name : A → List B) where
  pub joined_fine : ((x : A) (us : List B) → R x us → (faults x ≡ []) × (name x ≡ us)) → (xs : List A) (ys : List B) → Joined R xs ys → (flat_map faults xs ≡ []) × (flat_map name xs ≡ ys)
  joined_fine f [] ys h = (refl, sym h)
  joined_fine f (x ∷ xs) ys h =
      let w = f x h.0 h.1.1 in
      let v = joined_fine f xs h.1.0 h.1.2 in
      (both (faults x) (flat_map faults xs) w.0 v.0, ap (λ (z : List B). z ++ flat_map name xs) w.1 ∙ (ap (λ (l : List B). h.0 ++ l) v.1 ∙ sym h.1.3))

  pub joined_mean : ((x : A) → faults x ≡ [] → R x (name x)) → (xs : List A) → flat_map faults xs ≡ [] → Joined R xs (flat_map name xs)
  joined_mean f [] h = refl
  joined_mean f (x ∷ xs) h =
      let w = empty_parts (faults x) (flat_map faults xs) h in
      (name x, (flat_map name xs, f x w.0, joined_mean f xs w.1, refl))

-- ---- names that are declared once

others : (x y : List ℕ) → (x ≡ y → ⊥) → bytes_eq y x ≡ false
others x y n = by (bytes_eq y x) refl
  where
    by : (b : Bool) → bytes_eq y x ≡ b → b ≡ false
    by true e = absurd (n (sym ((bytes_eq-Decides y x).0 e)))
    by false e = refl

with_other : (names : List (List ℕ)) (x y : List ℕ) → has_name names y ≡ false → (x ≡ y → ⊥) → has_name (with_name names x) y ≡ false
unfolding with_name
with_other names x y h n = by (has_name names x)
  where
    by : (a : Bool) → has_name (if a then names else names ++ x ∷ []) y ≡ false
    by true = h
    by false =
        list_any-append (bytes_eq y) names (x ∷ [])
        ∙ (ap (λ (a : Bool). a || has_name (x ∷ []) y) h ∙ ap (λ (a : Bool). a || false) (others x y n))

with_same : (names : List (List ℕ)) (x : List ℕ) → has_name (with_name names x) x ≡ true
unfolding with_name
with_same names x = by (has_name names x) refl
  where
    here : (y : List ℕ) → bytes_eq x y ≡ true → has_name (y ∷ []) x ≡ true
    here y e = ap (λ (a : Bool). a || false) e

    by : (a : Bool) → has_name names x ≡ a → has_name (if a then names else names ++ x ∷ []) x ≡ true
    by true e = e
    by false e = list_any-append (bytes_eq x) names (x ∷ []) ∙ or_right (has_name names x) (has_name (x ∷ []) x) (here x ((bytes_eq-Decides x x).1 refl))

with_kept : (names : List (List ℕ)) (x y : List ℕ) → has_name names y ≡ true → has_name (with_name names x) y ≡ true
unfolding with_name
with_kept names x y h = by (has_name names x)
  where
    by : (a : Bool) → has_name (if a then names else names ++ x ∷ []) y ≡ true
    by true = h
    by false = list_any-append (bytes_eq y) names (x ∷ []) ∙ or_left (has_name names y) (has_name (x ∷ []) y) h

not_before : (names : List (List ℕ)) (x y : List ℕ) → has_name (with_name names x) y ≡ false → has_name names y ≡ false
not_before names x y h = by (has_name names y) refl
  where
    by : (b : Bool) → has_name names y ≡ b → b ≡ false
    by true e = never (sym h ∙ with_kept names x y e)
    by false e = refl

once_from : (names : List (List ℕ)) (xs : List t.Id) → AreOnce (map text_of xs) → ((y : List ℕ) → In (map text_of xs) y → has_name names y ≡ false) → repeats names xs ≡ []
once_from names [] o h = refl
once_from names (x ∷ xs) o h =
    both
    (unless (not (has_name names x.text)) (fault kinds.Duplicate x.pos x.text))
    (repeats (with_name names x.text) xs)
    (ap (λ (b : Bool). unless (not b) (fault kinds.Duplicate x.pos x.text)) (h x.text (inl refl)))
    (once_from (with_name names x.text) xs o.1 others_new)
  where
    others_new : (y : List ℕ) → In (map text_of xs) y → has_name (with_name names x.text) y ≡ false
    others_new y i =
        with_other names x.text y (h y (inr i)) (λ e. o.0 (contained (map text_of xs) x.text (subst (λ (z : List ℕ). In (map text_of xs) z) (sym e) i)))

none_before : (names : List (List ℕ)) (xs : List t.Id) → repeats names xs ≡ [] → (y : List ℕ) → In (map text_of xs) y → has_name names y ≡ false
none_before names [] h y i = absurd i
none_before names (x ∷ xs) h y (inl e) =
    let parts = empty_parts (unless (not (has_name names x.text)) (fault kinds.Duplicate x.pos x.text)) (repeats (with_name names x.text) xs) h in
    ap (has_name names) (sym e) ∙ not-true (has_name names x.text) (holds (not (has_name names x.text)) (fault kinds.Duplicate x.pos x.text) parts.0)
none_before names (x ∷ xs) h y (inr i) =
    let parts = empty_parts (unless (not (has_name names x.text)) (fault kinds.Duplicate x.pos x.text)) (repeats (with_name names x.text) xs) h in
    not_before names x.text y (none_before (with_name names x.text) xs parts.1 y i)

pub once_fine : (xs : List t.Id) → AreOnce (map text_of xs) → repeats [] xs ≡ []
once_fine xs o = once_from [] xs o (λ y i. refl)

once_apart : (names : List (List ℕ)) (xs : List t.Id) → repeats names xs ≡ [] → AreOnce (map text_of xs)
once_apart names [] h = tt
once_apart names (x ∷ xs) h =
    let parts = empty_parts (unless (not (has_name names x.text)) (fault kinds.Duplicate x.pos x.text)) (repeats (with_name names x.text) xs) h in (
      λ c. never (sym (none_before (with_name names x.text) xs parts.1 x.text (member (map text_of xs) x.text c)) ∙ with_same names x.text),
      once_apart (with_name names x.text) xs parts.1,
    )

pub once_mean : (xs : List t.Id) → repeats [] xs ≡ [] → AreOnce (map text_of xs)
once_mean xs h = once_apart [] xs h
