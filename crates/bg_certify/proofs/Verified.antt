-- The certificate of a true outcome whose status is 0 is accepted.
use Rattle.std.proofs.Common.{◌≡◌, ℕ, zero, suc, ◌<◌, Bool, true, false, List, [], ◌∷◌, length, map, get_or, Some, None, refl, sym, ap, ◌∙◌, subst, inl, inr, cond, arith}
use Rattle.std.specs.Prelude.{◌⊎◌, ◌||◌, is_some, slice_get, filter, Contains, if◌then◌else◌}
use Rattle.std.specs.List.{list_any}
use Rattle.std.proofs.lemmas.List.{length-map, get_or-map}
use Rattle.std.proofs.lemmas.List.Elements.{filter_passes}
use Rattle.bg_ast.specs.Syntax.{Prog}
use Rattle.bg_ast.specs.Resolved as r
use Rattle.bg_ast.specs.Meaning.{meaning_of}
use Rattle.bg_places.specs.Placed.{Placed, placed_impl}
use Rattle.bg_tree.specs.declared.outcome.Budget.{Budget}
use Rattle.bg_sound.specs.Told as t
use Rattle.bg_words.specs.Sets.{has}
use Rattle.bg_check.specs.declared.verdict.Cause.{Cause}
use Rattle.bg_check.specs.declared.verdict.Verdict.{Verdict}
use Rattle.bg_check.specs.declared.verdict.Verdict.TheVariants.{Proved, Refuted, Unknown, Left}
use Rattle.bg_check.specs.declared.verdict.Judged.{Judged}
use Rattle.bg_check.specs.Verdicts.{placed_at, judged, AreRightFrom, is_proved}
use Rattle.bg_check.specs.Outcomes.{verdict_of, told_one, told, is_ordinary}
use Rattle.bg_carried.specs.Carried.{carried_one, carried_verdict, axioms_by}
use Rattle.bg_inference.specs.declared.outcome.Outcome.{Outcome}
use Rattle.bg_inference.specs.Outcomes.{judged_program, IsTrueOutcome}
use Rattle.bg_inference.specs.Told.{outcome_of}
use Rattle.bg_certtext.specs.Views.{CertOf}
use Rattle.bg_accept.specs.Sections.{section_at}
use Rattle.bg_accept.specs.Accepted as accept
use Rattle.bg_accept.specs.Accepted.{retained_by, IsShown}
use Rattle.bg_confirm.specs.Accepted.{IsAccepted}
use Rattle.bg_certify.specs.Written.{IsUnproved, HasSections, IsWritten}
use Rattle.bg_certify.proofs.Meeting.{found_met}

-- ---- verdicts are on ordinary places

ordinary_in : (xs : List Placed) (js : List Judged) (j : Judged) → map placed_at js ≡ filter t.is_ordinary xs → Contains js j → is_ordinary j ≡ true
ordinary_in xs js j e h =
    let count : length js ≡ length (filter t.is_ordinary xs) = sym (length-map js placed_at) ∙ ap length e in
    let inside : h.0 < length (filter t.is_ordinary xs) = omega (arith, h.1) in
    let its : get_or (filter t.is_ordinary xs) h.0 (placed_at j) ≡ placed_at j =
    ap (λ (l : List Placed). get_or l h.0 (placed_at j)) (sym e) ∙ (get_or-map placed_at js h.0 j (placed_at j) h.1 ∙ ap placed_at h.2) in
    ap t.is_ordinary (sym its) ∙ filter_passes t.is_ordinary xs h.0 (placed_at j) inside

module _ (budget : Budget) (p : r.Program) (set : ℕ → Bool) where
  all_ordinary : (k : ℕ) (ms : List r.Impl) (jss : List (List Judged)) → AreRightFrom budget p set k ms jss → (n : ℕ) (js : List Judged) (j : Judged) →
      slice_get jss n ≡ Some js → Contains js j → is_ordinary j ≡ true
  all_ordinary k [] [] g n js j e h = absurd (let f : None ≡ Some js = e in cc)
  all_ordinary k [] (is ∷ jss) g n js j e h = absurd g
  all_ordinary k (m ∷ ms) [] g n js j e h = absurd g
  all_ordinary k (m ∷ ms) (is ∷ jss) g zero js j e h =
      let same : js ≡ is = cc in ordinary_in (placed_impl p.procedures k m) is j g.0.places (subst (λ (l : List Judged). Contains l j) same h)
  all_ordinary k (m ∷ ms) (is ∷ jss) g (suc n) js j e h = all_ordinary (suc k) ms jss g.1 n js j e h

-- ---- what is told of one is told of all

any_mapped : {A B : Type 0} (test : B → Bool) (f : A → B) (xs : List A) → list_any test (map f xs) ≡ list_any (λ x. test (f x)) xs
any_mapped test f [] = refl
any_mapped test f (x ∷ xs) = ap (λ (b : Bool). test (f x) || b) (any_mapped test f xs)

or_first : (a b : Bool) → a ≡ true → a || b ≡ true
or_first a b e = ap (λ (x : Bool). x || b) e

or_second : (a b : Bool) → b ≡ true → a || b ≡ true
or_second true b e = refl
or_second false b e = e

module _ (words : ℕ → Cause → t.Why) (test : t.Judged → Bool) where
  told_at : (js : List Judged) (j : Judged) (i : ℕ) → i < length js → get_or js i j ≡ j → is_ordinary j ≡ true → test (told_one words j) ≡ true → list_any test (told words js) ≡ true
  told_at [] j i l e o h = absurd (omega arith)
  told_at (x ∷ js) j zero l e o h =
      let its : is_ordinary x ≡ true = ap is_ordinary e ∙ o in
      ap (λ (b : Bool). list_any test (map (told_one words) (cond b (x ∷ filter is_ordinary js) (filter is_ordinary js)))) its
      ∙ or_first (test (told_one words x)) (list_any test (told words js)) (ap (λ (y : Judged). test (told_one words y)) e ∙ h)
  told_at (x ∷ js) j (suc i) l e o h = by (is_ordinary x) (told_at js j i (omega arith) e o h)
    where
      by : (b : Bool) → list_any test (map (told_one words) (filter is_ordinary js)) ≡ true →
          list_any test (map (told_one words) (cond b (x ∷ filter is_ordinary js) (filter is_ordinary js))) ≡ true
      by true f = or_second (test (told_one words x)) (list_any test (told words js)) f
      by false f = f

any_told : (words : ℕ → Cause → t.Why) (test : List t.Judged → Bool) (jss : List (List Judged)) (n : ℕ) (js : List Judged) → slice_get jss n ≡ Some js → test (told words js) ≡ true →
    list_any test (map (told words) jss) ≡ true
any_told words test [] n js e h = absurd (let f : None ≡ Some js = e in cc)
any_told words test (x ∷ jss) zero js e h =
    let same : x ≡ js = cc in
    or_first (test (told words x)) (list_any test (map (told words) jss)) (ap (λ (l : List Judged). test (told words l)) same ∙ h)
any_told words test (x ∷ jss) (suc n) js e h =
    or_second (test (told words x)) (list_any test (map (told words) jss)) (any_told words test jss n js e h)

neither : (a b : Bool) → (a || b) ≡ false → (a ≡ false) × (b ≡ false)
neither true b e = absurd (let f : true ≡ false = e in cc)
neither false b e = (refl, e)

-- what passes is nowhere among what is carried to the program
none_carried : (p : Prog) (test : t.Verdict → Bool) (os : List (List t.Judged)) → list_any (λ js. list_any (λ j. test j.verdict) js) (map (map (carried_one p)) os) ≡ false →
    list_any (λ js. list_any (λ j. test (carried_verdict p j.verdict)) js) os ≡ false
none_carried p test [] e = refl
none_carried p test (js ∷ os) e =
    let here = any_mapped (λ (j : t.Judged). test j.verdict) (carried_one p) js in
    let w = neither _ _ e in
    ap (λ (b : Bool). b || list_any (λ ks. list_any (λ j. test (carried_verdict p j.verdict)) ks) os) (sym here ∙ w.0) ∙ none_carried p test os w.1

-- ---- the status is 0 where the axioms are consistent, and no place is refuted or unknown

abbrev status_at : Bool → Bool → ℕ
status_at a b = if a then 1 else (if b then 2 else 0)

status : (a b : Bool) → status_at a b ≡ 0 → (a ≡ false) × (b ≡ false)
status true b e = absurd (omega arith)
status false true e = absurd (omega arith)
status false false e = (refl, refl)

never : {A : Type 0} (b : Bool) → b ≡ true → b ≡ false → A
never b e f = absurd (let g : true ≡ false = sym e ∙ f in cc)

module _ (keeps : Bool) (budget : Budget) (p : r.Program) (o : Outcome) (words : ℕ → Cause → t.Why) (true_of : IsTrueOutcome keeps budget p o) (zero_of : t.status_of (outcome_of words (meaning_of p) o) ≡ 0) where
  abbrev P : Prog
  P = meaning_of p

  abbrev vs : List (List Judged)
  vs = judged o.judged.verdicts.items

  abbrev os : List (List t.Judged)
  os = map (told words) vs

  abbrev word : t.Axioms
  word = axioms_by (verdict_of words o.axioms)

  none : ((t.is_contradictory word || list_any t.has_refuted (map (map (carried_one P)) os)) ≡ false) × ((t.is_undecided word || list_any t.has_unknown (map (map (carried_one P)) os)) ≡ false)
  none =
      status (t.is_contradictory word || list_any t.has_refuted (map (map (carried_one P)) os)) (t.is_undecided word || list_any t.has_unknown (map (map (carried_one P)) os)) zero_of

  none_unproved : {A : Type 0} (k : ℕ) (a : Placed) → IsUnproved o.judged k a → A
  none_unproved k a u = by u.verdict.verdict refl u.not_proved
    where
      ordinary : is_ordinary u.verdict ≡ true
      ordinary =
          all_ordinary budget (judged_program p) (has o.judged.inferred.retained) 0 (judged_program p).implementations vs true_of.judged.ordinary k u.verdicts u.verdict u.there u.is_one

      -- a test that is passed by the verdict isn't passed nowhere
      found : {A : Type 0} (test : t.Verdict → Bool) → list_any (λ js. list_any (λ j. test j.verdict) js) (map (map (carried_one P)) os) ≡ false →
          test (carried_verdict P (verdict_of words u.verdict.verdict)) ≡ true → A
      found test f e =
          never (list_any (λ js. list_any (λ j. test (carried_verdict P j.verdict)) js) os)
          (any_told words (λ js. list_any (λ j. test (carried_verdict P j.verdict)) js) vs k u.verdicts u.there (told_at words (λ j. test (carried_verdict P j.verdict)) u.verdicts u.verdict u.is_one.0 u.is_one.1 u.is_one.2 ordinary e))
          (none_carried P test os f)

      by : {A : Type 0} (v : Verdict) → u.verdict.verdict ≡ v → is_proved v ≡ false → A
      by (Proved proof) e n = absurd (let f : true ≡ false = n in cc)
      by (Refuted cex) e n =
          found t.is_refuted (neither _ _ none.0).1 (ap (λ (v : Verdict). t.is_refuted (carried_verdict P (verdict_of words v))) e)
      by (Unknown rounds cause) e n =
          found t.is_unknown (neither _ _ none.1).1 (ap (λ (v : Verdict). t.is_unknown (carried_verdict P (verdict_of words v))) e)
      by (Left kept) e n =
          found t.is_unknown (neither _ _ none.1).1 (ap (λ (v : Verdict). t.is_unknown (carried_verdict P (verdict_of words v))) e)

  accepted_opened : (c : CertOf) → is_some c.interp ≡ true → HasSections (judged_program p) o.judged c → accept.IsAccepted (judged_program p) c
  accepted_opened c some w =
      record {
        axioms = some;
        retained = w.placed;
        shown = λ k i a req. by k i a (w.each k i a req);
        no_other = w.no_other;
      }
    where
      by : (k i : ℕ) (a : Placed) → IsShown (meaning_of (judged_program p)) (retained_by (judged_program p) c) p.candidates c.sections i a.place ⊎ (IsUnproved o.judged k a × (section_at k i c.sections ≡ None)) →
          IsShown (meaning_of (judged_program p)) (retained_by (judged_program p) c) p.candidates c.sections i a.place
      by k i a (inl s) = s
      by k i a (inr u) = none_unproved k a u.0

  pub accepted : (c : CertOf) → IsWritten p o c → IsAccepted p c
  accepted c w =
      let f = found_met keeps budget p o true_of words c w.interp (neither _ _ none.0).0 (neither _ _ none.1).0 in
      (f.1, accepted_opened c f.0 w.sections)
