-- The places without a candidate, one after the other.
use Rattle.std.proofs.Common.{◌≡◌, ℕ, suc, ◌+◌, ◌<◌, Bool, true, false, cond, is_none, [], ◌∷◌, ◌++◌, length, take, get_or, Option, Some, None, refl, sym, ap, ◌∙◌, List, arith}
use Rattle.std.specs.Prelude.{filter}
use Rattle.std.proofs.Math.Seq.{take-suc}
use Rattle.std.proofs.lemmas.List.{map-append}
use Rattle.std.proofs.lemmas.List.Elements.{filter-append}
use Rattle.bg_base.specs.declared.ids.CandId.{CandId}
use Rattle.bg_text.specs.Views.{option_of}
use Rattle.bg_ast.specs.Views.{candidate_of}
use Rattle.bg_places.specs.declared.place.Place.{Place}
use Rattle.bg_places.specs.Views.{placed_of, placed_in}
use Rattle.bg_sound.specs.Told.{is_ordinary}

same_none : (o : Option CandId) → is_none (option_of candidate_of o) ≡ is_none o
same_none None = refl
same_none (Some c) = refl

-- one more place: it is added where it has no candidate
pub one_ordinary : (made ps new : List Place) (k : ℕ) (d : Place) → placed_in made ≡ filter is_ordinary (placed_in (take k ps)) → k < length ps
    → new ≡ made ++ cond (is_none (get_or ps k d).candidate) (get_or ps k d ∷ []) [] → placed_in new ≡ filter is_ordinary (placed_in (take (k + 1) ps))
one_ordinary made ps new k d h l is =
    let x = get_or ps k d in
    let before = filter is_ordinary (placed_in (take k ps)) in
    ap placed_in is ∙ (map-append placed_of made (cond (is_none x.candidate) (x ∷ []) []) ∙ (ap (λ us. us ++ placed_in (cond (is_none x.candidate) (x ∷ []) [])) h ∙ (ap (λ us. before ++ us) (single x) ∙ sym all)))
  where
    by : (x : Place) (b : Bool) → placed_in (cond b (x ∷ []) []) ≡ cond b (placed_of x ∷ []) []
    by x true = refl
    by x false = refl

    single : (x : Place) → placed_in (cond (is_none x.candidate) (x ∷ []) []) ≡ filter is_ordinary (placed_in (x ∷ []))
    single x = by x (is_none x.candidate) ∙ ap (λ (b : Bool). cond b (placed_of x ∷ []) []) (sym (same_none x.candidate))

    all : filter is_ordinary (placed_in (take (k + 1) ps)) ≡ filter is_ordinary (placed_in (take k ps)) ++ filter is_ordinary (placed_in (get_or ps k d ∷ []))
    all =
        let s : k + 1 ≡ suc k = omega arith in
        ap (λ (j : ℕ). filter is_ordinary (placed_in (take j ps))) s
        ∙ (ap (λ qs. filter is_ordinary (placed_in qs)) (take-suc ps k d l)
        ∙ (ap (filter is_ordinary) (map-append placed_of (take k ps) (get_or ps k d ∷ [])) ∙ filter-append is_ordinary (placed_in (take k ps)) (placed_in (get_or ps k d ∷ []))))
