-- Values that are read word by word.
use Rattle.std.proofs.Common.{◌≡◌, ℕ, ◌+◌, List, [], ◌∷◌, ◌++◌, length, map, drop, get_or, ◌≤◌, ◌<◌, Option, Some, None, refl, ap, sym, ◌∙◌}
use Rattle.std.proofs.lemmas.List.{drop_all, drop_more}
use Rattle.bg_certtext.specs.Views.{PartOf}
use Rattle.bg_certtext.specs.Machine.{part_in, index_in}
use Rattle.bg_certtext.proofs.Lists.{front, front_put, front_all}

values_step : (made : List PartOf) (w : List ℕ) (ws : List (List ℕ)) (v : PartOf) → part_in w ≡ Some v → front made (index_in (w ∷ ws)) ≡ front (made ++ v ∷ []) (index_in ws)
values_step made w ws v e = rw e (front_put made v (index_in ws))

values_stop : (made : List PartOf) (w : List ℕ) (ws : List (List ℕ)) → part_in w ≡ None → front made (index_in (w ∷ ws)) ≡ None
values_stop made w ws e = rw e refl

-- one more value, of the word at i
pub values_more : {W : Type 0} (f : W → List ℕ) (e : W) (made new : List PartOf) (i : ℕ) (ws : List W) (v : PartOf) (whole : Option (List PartOf)) → i < length ws → new ≡ made ++ v ∷ [] → part_in (f (get_or ws i e)) ≡ Some v → front made (index_in (map f (drop i ws))) ≡ whole → front new (index_in (map f (drop (i + 1) ws))) ≡ whole
values_more {W = W} f e made new i ws v whole here pushed is inv =
    ap (λ (vs : List PartOf). front vs (index_in (map f (drop (i + 1) ws)))) pushed
    ∙ sym (values_step made (f (get_or ws i e)) (map f (drop (i + 1) ws)) v is)
    ∙ sym (ap (λ (us : List W). front made (index_in (map f us))) (drop_more ws i e here))
    ∙ inv

-- the word at i is no value
pub values_none : {W : Type 0} (f : W → List ℕ) (e : W) (made : List PartOf) (i : ℕ) (ws : List W) (whole : Option (List PartOf)) → i < length ws → part_in (f (get_or ws i e)) ≡ None → front made (index_in (map f (drop i ws))) ≡ whole → None ≡ whole
values_none {W = W} f e made i ws whole here is inv =
    sym (values_stop made (f (get_or ws i e)) (map f (drop (i + 1) ws)) is)
    ∙ sym (ap (λ (us : List W). front made (index_in (map f us))) (drop_more ws i e here))
    ∙ inv

-- no word is left
pub values_done : {W : Type 0} (f : W → List ℕ) (made : List PartOf) (i : ℕ) (ws : List W) (whole : Option (List PartOf)) → length ws ≤ i → front made (index_in (map f (drop i ws))) ≡ whole → Some made ≡ whole
values_done {W = W} f made i ws whole end inv =
    sym (front_all made) ∙ sym (ap (λ (us : List W). front made (index_in (map f us))) (drop_all i ws end)) ∙ inv
