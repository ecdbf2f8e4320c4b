-- Lists of faults, taken apart, and names that are there.
use Rattle.std.proofs.Common.{◌≡◌, ℕ, ◌+◌, ◌<◌, Bool, true, false, List, [], ◌∷◌, ◌++◌, length, Some, None, refl, cond, arith}
use Rattle.std.specs.Prelude.{◌||◌, not, nat_lt}
use Rattle.std.specs.List.{list_any, position_or_len}
use Rattle.std.specs.Str.{bytes_eq}
use Rattle.bg_text.specs.Trees.{Id}
use Rattle.bg_names.specs.declared.error.FaultKind.TheVariants as kinds
use Rattle.bg_names.specs.Faults.{Fault, fault, unless}
use Rattle.bg_names.specs.Spaces.{has_name, place, use_faults}

pub never : {A : Type 0} → false ≡ true → A
never h = absurd (let bad : ⊥ = cc in bad)

pub faulty : {A : Type 0} (f : Fault) (fs : List Fault) → f ∷ fs ≡ [] → A
faulty f fs h = absurd (let bad : ⊥ = cc in bad)

pub nothing : {A : Type 0} (k : ℕ) → None ≡ Some k → A
nothing k h = absurd (let bad : ⊥ = cc in bad)

pub split_nil : (fs gs : List Fault) → fs ++ gs ≡ [] → (fs ≡ []) × (gs ≡ [])
split_nil [] gs h = (refl, h)
split_nil (f ∷ fs) gs h = faulty f (fs ++ gs) h

pub holds : (b : Bool) (f : Fault) → unless b f ≡ [] → b ≡ true
holds true f h = refl
holds false f h = faulty f [] h

any_within : (p : List ℕ → Bool) (xs : List (List ℕ)) → list_any p xs ≡ true → position_or_len p xs < length xs
any_within p [] h = never h
any_within p (x ∷ xs) h = by (p x) h (any_within p xs)
  where
    by : (b : Bool) → (b || list_any p xs) ≡ true → (list_any p xs ≡ true → position_or_len p xs < length xs) → cond (not b) (1 + position_or_len p xs) 0 < length (x ∷ xs)
    by true h rest = omega arith
    by false h rest = let r = rest h in omega arith

if_less : (a b : ℕ) → a < b → cond (nat_lt a b) (Some a) None ≡ Some a
if_less a b h = grind arith

-- a name that is among these has a place
pub has_place : (names : List (List ℕ)) (x : List ℕ) → has_name names x ≡ true → (k : ℕ) × (place names x ≡ Some k)
unfolding place
has_place names x h =
    let k = position_or_len (bytes_eq x) names in
    (k, if_less k (length names) (any_within (bytes_eq x) names h))

-- a name that is used without a fault has a place
pub is_placed : (names : List (List ℕ)) (x : Id) → use_faults names x ≡ [] → (k : ℕ) × (place names x.text ≡ Some k)
is_placed names x h =
    has_place names x.text (holds (has_name names x.text) (fault kinds.UnknownName x.pos x.text) h)
