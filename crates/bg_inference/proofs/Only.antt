-- A program with one place has one verdict.
use Rattle.std.proofs.Common.{◌≡◌, ℕ, Bool, true, cond, List, [], ◌∷◌, ◌++◌, map, is_none, Option, None, refl, ap, ◌∙◌, subst}
use Rattle.std.specs.Prelude.{filter}
use Rattle.bg_ast.specs.Syntax.{Prog, Impl}
use Rattle.bg_ast.specs.Resolved as r
use Rattle.bg_ast.specs.Meaning.{meaning_of}
use Rattle.bg_ast.specs.Execution.{Place}
use Rattle.bg_places.specs.Placed.{Placed, place_in, placed_from, placed_impl}
use Rattle.bg_tree.specs.declared.outcome.Budget.{Budget}
use Rattle.bg_sound.specs.Told.{is_ordinary}
use Rattle.bg_check.specs.declared.verdict.Judged.{Judged}
use Rattle.bg_check.specs.Verdicts.{IsRight, placed_at, AreRightOf, AreRightFrom}

-- there is one, and it is right
pub record IsOnly (budget : Budget) (p : Prog) (set : ℕ → Bool) (t : Place) (js : List (List Judged)) : Type 0 where
  pub one : Judged
  pub is : js ≡ (one ∷ []) ∷ []
  pub right : IsRight budget p set t one.verdict

one_placed : (t : Place) (xs : List Placed) → map place_in (xs ++ []) ≡ t ∷ [] → (a : Placed) × (xs ≡ a ∷ []) × (place_in a ≡ t)
one_placed t [] h = absurd (let bad : ⊥ = cc in bad)
one_placed t (a ∷ []) h = (a, refl, cc)
one_placed t (a ∷ b ∷ xs) h = absurd (let bad : ⊥ = cc in bad)

one_judged : (a : Placed) (js : List Judged) → map placed_at js ≡ a ∷ [] → (j : Judged) × (js ≡ j ∷ []) × (placed_at j ≡ a)
one_judged a [] h = absurd (let bad : ⊥ = cc in bad)
one_judged a (j ∷ []) h = (j, refl, cc)
one_judged a (j ∷ k ∷ js) h = absurd (let bad : ⊥ = cc in bad)

module _ (budget : Budget) (p : r.Program) (set : ℕ → Bool) (t : Place) (ordinary : t.candidate ≡ None) where
  in_row : (m : r.Impl) (js : List Judged) → map place_in (placed_impl p.procedures 0 m ++ []) ≡ t ∷ [] → AreRightOf budget p set 0 m js → (j : Judged) × (js ≡ j ∷ []) × IsRight budget (meaning_of p) set t j.verdict
  in_row m js h right =
      let a = one_placed t (placed_impl p.procedures 0 m) h in
      let is_one : is_ordinary a.0 ≡ true = ap (λ (x : Place). is_none x.candidate) a.2 ∙ ap (λ (c : Option ℕ). is_none c) ordinary in
      let all : map placed_at js ≡ a.0 ∷ [] = right.places ∙ ap (filter is_ordinary) a.1 ∙ ap (λ (b : Bool). cond b (a.0 ∷ []) []) is_one in
      let j = one_judged a.0 js all in
      let here = (subst (λ l. Rattle.bg_check.specs.Verdicts.AreRightAt budget (meaning_of p) set l) j.1 right.right).0 in
      (j.0, j.1, subst (λ (x : Place). IsRight budget (meaning_of p) set x j.0.verdict) (ap place_in j.2 ∙ a.2) here)

  pub only_one : (x : Impl) (f : r.Impl → Impl) (ms : List r.Impl) (js : List (List Judged)) → map f ms ≡ x ∷ [] → map place_in (placed_from p.procedures 0 ms) ≡ t ∷ [] → AreRightFrom budget p set 0 ms js → IsOnly budget (meaning_of p) set t js
  only_one x f [] js e h right = absurd (let bad : ⊥ = cc in bad)
  only_one x f (m ∷ n ∷ ms) js e h right = absurd (let bad : ⊥ = cc in bad)
  only_one x f (m ∷ []) [] e h right = absurd right
  only_one x f (m ∷ []) (row ∷ k ∷ js) e h right = absurd right.1
  only_one x f (m ∷ []) (row ∷ []) e h right =
      let j = in_row m row h right.0 in
      record { one = j.0; is = ap (λ l. l ∷ []) j.1; right = j.2 }
