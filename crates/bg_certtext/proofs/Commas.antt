-- The parts of a word, put together, are the word.
use Rattle.std.proofs.Common.{◌≡◌, ℕ, Bool, true, false, ◌==◌, List, [], ◌∷◌, flat_map, refl, ap, sym, subst, ◌∙◌}
use Rattle.std.proofs.lemmas.Bool.{eqb-true}
use Rattle.bg_certtext.specs.Lines.{behind_comma, commas}
use Rattle.bg_certtext.specs.Words.{parts_of, in_first}

pub record Filled (ws : List (List ℕ)) : Type 0 where
  pub first : List ℕ
  pub others : List (List ℕ)
  pub is : ws ≡ first ∷ others

first_filled : (b : ℕ) (ws : List (List ℕ)) → Filled (in_first b ws)
first_filled b [] = record { first = b ∷ []; others = []; is = refl }
first_filled b (w ∷ ws) = record { first = b ∷ w; others = ws; is = refl }

filled_by : (b : ℕ) (bs : List ℕ) (t : Bool) → (b == 44) ≡ t → Filled (parts_of (b ∷ bs))
filled_by b bs true e = record { first = []; others = parts_of bs; is = rw e refl }
filled_by b bs false e = subst Filled (sym (let same : parts_of (b ∷ bs) ≡ in_first b (parts_of bs) = rw e refl in same)) (first_filled b (parts_of bs))

pub filled : (bs : List ℕ) → Filled (parts_of bs)
filled [] = record { first = []; others = []; is = refl }
filled (b ∷ bs) = filled_by b bs (b == 44) refl

behind_filled : (ws : List (List ℕ)) → Filled ws → flat_map behind_comma ws ≡ 44 ∷ commas ws
behind_filled ws h = ap (flat_map behind_comma) h.is ∙ ap (λ (us : List (List ℕ)). 44 ∷ commas us) (sym h.is)

first_commas : (b : ℕ) (ws : List (List ℕ)) → Filled ws → commas (in_first b ws) ≡ b ∷ commas ws
first_commas b ws h = ap (λ (us : List (List ℕ)). commas (in_first b us)) h.is ∙ ap (λ (us : List (List ℕ)). b ∷ commas us) (sym h.is)

commas_by : (b : ℕ) (bs : List ℕ) (t : Bool) → (b == 44) ≡ t → commas (parts_of bs) ≡ bs → commas (parts_of (b ∷ bs)) ≡ b ∷ bs
commas_by b bs true e h =
    ap commas (let same : parts_of (b ∷ bs) ≡ [] ∷ parts_of bs = rw e refl in same)
    ∙ behind_filled (parts_of bs) (filled bs)
    ∙ ap (λ (cs : List ℕ). 44 ∷ cs) h
    ∙ ap (λ (c : ℕ). c ∷ bs) (sym (eqb-true b 44 e))
commas_by b bs false e h =
    ap commas (let same : parts_of (b ∷ bs) ≡ in_first b (parts_of bs) = rw e refl in same)
    ∙ first_commas b (parts_of bs) (filled bs)
    ∙ ap (λ (cs : List ℕ). b ∷ cs) h

pub commas_parts : (bs : List ℕ) → commas (parts_of bs) ≡ bs
commas_parts [] = refl
commas_parts (b ∷ bs) = commas_by b bs (b == 44) refl (commas_parts bs)
