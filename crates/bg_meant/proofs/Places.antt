-- A name that has a place is there.
use Rattle.std.proofs.Common.{◌≡◌, ℕ, zero, suc, Bool, true, false, List, [], ◌∷◌, Some, refl, sym}
use Rattle.std.specs.Prelude.{◌||◌, slice_get}
use Rattle.std.specs.List.{list_any}
use Rattle.std.specs.Str.{bytes_eq}
use Rattle.std.proofs.lemmas.Slice.Eq.{bytes_eq-Decides}
use Rattle.bg_names.specs.Spaces.{has_name, place}
use Rattle.bg_named.proofs.SpacesPlaces.{place_is}

or_left : (a b : Bool) → a ≡ true → (a || b) ≡ true
or_left true b h = refl
or_left false b h = absurd (let bad : false ≡ true = h in cc)

or_right : (a b : Bool) → b ≡ true → (a || b) ≡ true
or_right true b h = refl
or_right false b h = h

at_place : (names : List (List ℕ)) (x : List ℕ) (k : ℕ) → slice_get names k ≡ Some x → has_name names x ≡ true
at_place [] x k e = absurd (let bad : ⊥ = cc in bad)
at_place (y ∷ ys) x zero e =
    let same : y ≡ x = cc in
    or_left (bytes_eq x y) (list_any (bytes_eq x) ys) ((bytes_eq-Decides x y).1 (sym same))
at_place (y ∷ ys) x (suc k) e = or_right (bytes_eq x y) (list_any (bytes_eq x) ys) (at_place ys x k e)

pub has_by_place : (names : List (List ℕ)) (x : List ℕ) (k : ℕ) → place names x ≡ Some k → has_name names x ≡ true
has_by_place names x k e = at_place names x k (place_is names x k e).is_there
