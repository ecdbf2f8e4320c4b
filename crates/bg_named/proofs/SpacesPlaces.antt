-- The place of a name is that of a declaration.
use Rattle.std.proofs.Common.{◌≡◌, ℕ, ◌+◌, ◌<◌, Bool, true, false, List, [], ◌∷◌, length, Some, None, refl, sym, ap, ◌∙◌, arith, cond, get_or}
use Rattle.std.specs.Prelude.{not, ◌||◌, nat_lt, slice_get}
use Rattle.std.specs.List.{list_any, position_or_len}
use Rattle.std.specs.Str.{bytes_eq}
use Rattle.std.proofs.lemmas.Bool.{lt-ltb}
use Rattle.std.proofs.lemmas.Option.{slice_get-get_or}
use Rattle.std.proofs.lemmas.List.Quantifiers.{position-Some}
use Rattle.std.proofs.lemmas.Slice.Eq.{bytes_eq-Decides}
use Rattle.bg_text.specs.Trees.{Id}
use Rattle.bg_names.specs.Spaces.{has_name, place, use_faults}
use Rattle.bg_named.proofs.SpacesOnce.{passed}

-- a name at this place
pub record IsPlace (names : List (List ℕ)) (x : List ℕ) (k : ℕ) : Type 0 where
  pub small : k < length names
  pub is_there : slice_get names k ≡ Some x

pub place_is : (names : List (List ℕ)) (x : List ℕ) (k : ℕ) → place names x ≡ Some k → IsPlace names x k
unfolding place
place_is names x k h =
    let found = position-Some (bytes_eq x) names k [] h in
    let same : x ≡ get_or names k [] = (bytes_eq-Decides x (get_or names k [])).0 found.1 in
    record { small = found.0; is_there = slice_get-get_or names k [] found.0 ∙ ap (λ (y : List ℕ). Some y) (sym same) }

any_within : (p : List ℕ → Bool) (names : List (List ℕ)) → list_any p names ≡ true → position_or_len p names < length names
any_within p [] h = absurd (let bad : false ≡ true = h in cc)
any_within p (x ∷ xs) h = by (p x) refl (any_within p xs)
  where
    by : (b : Bool) → p x ≡ b → (list_any p xs ≡ true → position_or_len p xs < length xs) → position_or_len p (x ∷ xs) < length (x ∷ xs)
    by true e rest =
        let first : position_or_len p (x ∷ xs) ≡ 0 = ap (λ (b : Bool). cond (not b) (1 + position_or_len p xs) 0) e in
        omega (arith, first)
    by false e rest =
        let next : position_or_len p (x ∷ xs) ≡ 1 + position_or_len p xs = ap (λ (b : Bool). cond (not b) (1 + position_or_len p xs) 0) e in
        let later : list_any p xs ≡ true = sym (ap (λ (b : Bool). b || list_any p xs) e) ∙ h in
        let lt = rest later in
        omega (arith, next, lt)

-- a name that is there has a place
pub has_place : (names : List (List ℕ)) (x : List ℕ) → has_name names x ≡ true → (k : ℕ) × (place names x ≡ Some k)
unfolding place
has_place names x h =
    let n = position_or_len (bytes_eq x) names in
    let lt : nat_lt n (length names) ≡ true = lt-ltb n (length names) (any_within (bytes_eq x) names h) in
    (n, ap (λ (b : Bool). cond b (Some n) None) lt)

pub used : (names : List (List ℕ)) (x : Id) → use_faults names x ≡ [] → (k : ℕ) × (place names x.text ≡ Some k)
used names x h = has_place names x.text (passed (has_name names x.text) _ h)
