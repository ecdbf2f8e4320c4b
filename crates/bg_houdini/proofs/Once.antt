-- What is made once: each implementation prepared, and the tasks.
use Rattle.std.proofs.Common.{◌≡◌, ℕ, zero, suc, ◌+◌, ◌<◌, Bool, true, false, cond, is_some, List, [], ◌∷◌, ◌++◌, length, map, take, get_or, Option, Some, None, Result, Ok, Err, IfOk, refl, sym, ap, ◌∙◌, subst, arith}
use Rattle.std.specs.Prelude.{slice_get, filter}
use Rattle.std.proofs.Math.Seq.{take-suc}
use Rattle.std.proofs.lemmas.List.{map-append}
use Rattle.std.proofs.lemmas.List.Elements.{filter-append}
use Rattle.bg_base.specs.declared.ids.CandId.{CandId}
use Rattle.bg_text.specs.Views.{option_of}
use Rattle.bg_ast.specs.Execution as run
use Rattle.bg_ast.specs.Views.{candidate_of}
use Rattle.bg_places.specs.Placed.{place_in}
use Rattle.bg_places.specs.Views.{placed_of, placed_in}
use Rattle.bg_places.specs.declared.place.Place.{Place}
use Rattle.bg_houdini.specs.Tasks.{has_candidate}

-- an item of a list with one more at its end
pub last_or : {A : Type 0} (xs : List A) (y : A) (k : ℕ) (x : A) (P : ℕ → A → Type 0) → ((j : ℕ) (z : A) → slice_get xs j ≡ Some z → P j z) → P (length xs) y → slice_get (xs ++ (y ∷ [])) k ≡ Some x → P k x
last_or [] y zero x P f h e = subst (P 0) (let same : y ≡ x = cc in same) h
last_or [] y (suc k) x P f h e = absurd (let bad : ⊥ = cc in bad)
last_or (z ∷ xs) y zero x P f h e = f 0 x e
last_or (z ∷ xs) y (suc k) x P f h e = last_or xs y k x (λ j. P (suc j)) (λ j w g. f (suc j) w g) h e

same_some : (o : Option CandId) → is_some (option_of candidate_of o) ≡ is_some o
same_some None = refl
same_some (Some c) = refl

-- the places of these that have a candidate
abbrev pub places_in : List Place → List run.Place
places_in ps = map place_in (placed_in ps)

-- one more place: it is added where it has a candidate
pub one_place : (made ps new : List Place) (k : ℕ) (d : Place) → places_in made ≡ filter has_candidate (places_in (take k ps)) → k < length ps
    → new ≡ made ++ cond (is_some (get_or ps k d).candidate) (get_or ps k d ∷ []) [] → places_in new ≡ filter has_candidate (places_in (take (k + 1) ps))
one_place made ps new k d h l is =
    let x = get_or ps k d in
    let before = filter has_candidate (places_in (take k ps)) in
    ap places_in is ∙ (both made (cond (is_some x.candidate) (x ∷ []) []) ∙ (ap (λ us. us ++ places_in (cond (is_some x.candidate) (x ∷ []) [])) h ∙ (ap (λ us. before ++ us) (single x) ∙ sym all)))
  where
    both : (xs ys : List Place) → places_in (xs ++ ys) ≡ places_in xs ++ places_in ys
    both xs ys = ap (map place_in) (map-append placed_of xs ys) ∙ map-append place_in (placed_in xs) (placed_in ys)

    by : (x : Place) (b : Bool) → places_in (cond b (x ∷ []) []) ≡ cond b (place_in (placed_of x) ∷ []) []
    by x true = refl
    by x false = refl

    single : (x : Place) → places_in (cond (is_some x.candidate) (x ∷ []) []) ≡ filter has_candidate (places_in (x ∷ []))
    single x = by x (is_some x.candidate) ∙ ap (λ (b : Bool). cond b (place_in (placed_of x) ∷ []) []) (sym (same_some x.candidate))

    all : filter has_candidate (places_in (take (k + 1) ps)) ≡ filter has_candidate (places_in (take k ps)) ++ filter has_candidate (places_in (get_or ps k d ∷ []))
    all =
        let s : k + 1 ≡ suc k = omega arith in
        ap (λ (j : ℕ). filter has_candidate (places_in (take j ps))) s
        ∙ (ap (λ qs. filter has_candidate (places_in qs)) (take-suc ps k d l)
        ∙ (ap (filter has_candidate) (both (take k ps) (get_or ps k d ∷ [])) ∙ filter-append has_candidate (places_in (take k ps)) (places_in (get_or ps k d ∷ []))))

-- what holds of a result that is there is carried along
pub if_ok : {A E : Type 0} {P Q : A → Type 0} (r : Result A E) → ((a : A) → P a → Q a) → IfOk r P → IfOk r Q
if_ok (Ok a) f h = f a h
if_ok (Err e) f h = h
