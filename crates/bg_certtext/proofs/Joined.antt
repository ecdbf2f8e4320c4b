-- The words of a line, put together, are the line.
use Rattle.std.proofs.Common.{◌≡◌, ℕ, Bool, true, false, ◌==◌, List, [], ◌∷◌, ◌++◌, flat_map, refl, ap, sym, subst, ◌∙◌}
use Rattle.std.proofs.lemmas.Bool.{eqb-true}
use Rattle.bg_certtext.specs.Lines.{behind_space, spaced, line}
use Rattle.bg_certtext.specs.Words.{words_of, in_first}

record Filled (ws : List (List ℕ)) : Type 0 where
  pub first : List ℕ
  pub others : List (List ℕ)
  pub is : ws ≡ first ∷ others

first_filled : (b : ℕ) (ws : List (List ℕ)) → Filled (in_first b ws)
first_filled b [] = record { first = b ∷ []; others = []; is = refl }
first_filled b (w ∷ ws) = record { first = b ∷ w; others = ws; is = refl }

filled_by : (b : ℕ) (bs : List ℕ) (t : Bool) → (b == 32) ≡ t → Filled (words_of (b ∷ bs))
filled_by b bs true e = record { first = []; others = words_of bs; is = rw e refl }
filled_by b bs false e = subst Filled (sym (let same : words_of (b ∷ bs) ≡ in_first b (words_of bs) = rw e refl in same)) (first_filled b (words_of bs))

filled : (bs : List ℕ) → Filled (words_of bs)
filled [] = record { first = []; others = []; is = refl }
filled (b ∷ bs) = filled_by b bs (b == 32) refl

behind_filled : (ws : List (List ℕ)) → Filled ws → flat_map behind_space ws ≡ 32 ∷ spaced ws
behind_filled ws h = ap (flat_map behind_space) h.is ∙ ap (λ (us : List (List ℕ)). 32 ∷ spaced us) (sym h.is)

first_spaced : (b : ℕ) (ws : List (List ℕ)) → Filled ws → spaced (in_first b ws) ≡ b ∷ spaced ws
first_spaced b ws h = ap (λ (us : List (List ℕ)). spaced (in_first b us)) h.is ∙ ap (λ (us : List (List ℕ)). b ∷ spaced us) (sym h.is)

spaced_by : (b : ℕ) (bs : List ℕ) (t : Bool) → (b == 32) ≡ t → spaced (words_of bs) ≡ bs → spaced (words_of (b ∷ bs)) ≡ b ∷ bs
spaced_by b bs true e h =
    ap spaced (let same : words_of (b ∷ bs) ≡ [] ∷ words_of bs = rw e refl in same)
    ∙ behind_filled (words_of bs) (filled bs)
    ∙ ap (λ (cs : List ℕ). 32 ∷ cs) h
    ∙ ap (λ (c : ℕ). c ∷ bs) (sym (eqb-true b 32 e))
spaced_by b bs false e h =
    ap spaced (let same : words_of (b ∷ bs) ≡ in_first b (words_of bs) = rw e refl in same)
    ∙ first_spaced b (words_of bs) (filled bs)
    ∙ ap (λ (cs : List ℕ). b ∷ cs) h

pub spaced_words : (bs : List ℕ) → spaced (words_of bs) ≡ bs
spaced_words [] = refl
spaced_words (b ∷ bs) = spaced_by b bs (b == 32) refl (spaced_words bs)

pub line_words : (bs : List ℕ) → line (words_of bs) ≡ bs ++ 10 ∷ []
line_words bs = ap (λ (cs : List ℕ). cs ++ 10 ∷ []) (spaced_words bs)

-- a line of two words and a text that has words
pub named_line : (key name bs : List ℕ) → line (key ∷ name ∷ words_of bs) ≡ (key ++ (32 ∷ (name ++ (32 ∷ bs)))) ++ 10 ∷ []
named_line key name bs = ap (λ (x : List ℕ). (key ++ (32 ∷ (name ++ x))) ++ 10 ∷ []) (behind_filled (words_of bs) (filled bs) ∙ ap (λ (cs : List ℕ). 32 ∷ cs) (spaced_words bs))
