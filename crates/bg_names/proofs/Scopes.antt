-- Names by reference, and as texts.
use Rattle.std.proofs.Common.{◌≡◌, ℕ, ◌+◌, List, [], ◌∷◌, ◌++◌, Bool, true, false, refl, ap, cond, map}
use denote.Bor.{Bor}
use Rattle.std.specs.Prelude.{◌||◌, not, position}
use Rattle.std.specs.List.{list_any, position_or_len}
use Rattle.std.specs.Str.{bytes_eq}
use Rattle.std.proofs.lemmas.List.{length-map, map-append}
use Rattle.bg_names.specs.Spaces.{place, with_name}

abbrev pub texts : List (Bor (List ℕ)) → List (List ℕ)
texts keys = map (λ k. k.now) keys

module _ (name : List ℕ) where
  place_map : (keys : List (Bor (List ℕ))) → position_or_len (bytes_eq name) (texts keys) ≡ position_or_len (λ k. bytes_eq name k.now) keys
  place_map [] = refl
  place_map (k ∷ ks) = ap (λ n. cond (not (bytes_eq name k.now)) (1 + n) 0) (place_map ks)

  pub place_texts : (keys : List (Bor (List ℕ))) → place (texts keys) name ≡ position (λ k. bytes_eq name k.now) keys
  unfolding place
  place_texts keys = rw (place_map keys, length-map) refl

  pub any_map : (keys : List (Bor (List ℕ))) → list_any (bytes_eq name) (texts keys) ≡ list_any (λ k. bytes_eq name k.now) keys
  any_map [] = refl
  any_map (k ∷ ks) = ap (λ b. bytes_eq name k.now || b) (any_map ks)

  pub name_added : (k : Bor (List ℕ)) (keys new : List (Bor (List ℕ))) → k.now ≡ name → new ≡ cond (list_any (λ k. bytes_eq name k.now) keys) keys (keys ++ k ∷ []) → texts new ≡ with_name (texts keys) name
  unfolding with_name
  name_added k keys new same e = rw (any_map keys, e) (by (list_any (λ k. bytes_eq name k.now) keys))
    where
      by : (b : Bool) → texts (cond b keys (keys ++ k ∷ [])) ≡ cond b (texts keys) (texts keys ++ name ∷ [])
      by true = refl
      by false = rw (map-append, same) refl
