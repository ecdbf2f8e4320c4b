-- What a report tells of right verdicts is true.
use Rattle.std.proofs.Common.{◌≡◌, ℕ, suc, Bool, true, false, ◌&&◌, ◌||◌, List, [], ◌∷◌, map, cond, if◌then◌else◌, refl, sym, ap, ◌∙◌, subst}
use Rattle.std.specs.Prelude.{filter}
use Rattle.std.specs.List.{list_any, list_all}
use Rattle.bg_ast.specs.Syntax.{Prog}
use Rattle.bg_ast.specs.Resolved as r
use Rattle.bg_ast.specs.Meaning.{meaning_of}
use Rattle.bg_ast.specs.Execution.{Interp, State, Choice, Place}
use Rattle.bg_sense.specs.Claims.{Fails}
use Rattle.bg_sense.proofs.Bools.{and_left, and_right}
use Rattle.bg_places.specs.Placed.{placed_impl}
use Rattle.bg_cert.specs.Certs.{CertOf}
use Rattle.bg_tree.specs.declared.outcome.Budget.{Budget}
use Rattle.bg_sound.specs.Told as t
use Rattle.bg_sound.specs.Sound.{IsTrueAt, AreTrueAt, AreTrueFrom}
use Rattle.bg_check.specs.declared.verdict.Cause.{Cause}
use Rattle.bg_check.specs.declared.verdict.Verdict.{Verdict}
use Rattle.bg_check.specs.declared.verdict.Verdict.TheVariants.{Proved, Refuted, Unknown, Left}
use Rattle.bg_check.specs.declared.verdict.Judged.{Judged}
use Rattle.bg_check.specs.Verdicts.{IsRight, placed_at, AreRightAt, AreRightFrom, is_proved, are_proved, ProvedAreSafe}
use Rattle.bg_numbered.specs.Lines.{Line}
use Rattle.bg_task.specs.Certified.{HasCertificateOf}
use Rattle.bg_check.specs.Outcomes.{verdict_of, told_one, is_ordinary, told}
use Rattle.bg_check.proofs.Shown.{certified}

-- what certificates give
abbrev pub NoFailures : Prog → (ℕ → Bool) → Type 0
NoFailures p set =
    (t : Place) (lines : List Line) (cert : CertOf) → HasCertificateOf p set t lines cert → (i : Interp) (s : State) (cs : List Choice) → Fails p set t i s cs → ⊥

same_placed : (words : ℕ → Cause → t.Why) (js : List Judged) → map t.placed_at (map (told_one words) js) ≡ map placed_at js
same_placed words [] = refl
same_placed words (j ∷ js) = ap (λ ys. placed_at j ∷ ys) (same_placed words js)

-- what is ordinary already is all there
all_filtered : {A : Type 0} (f : A → Bool) (xs : List A) → list_all f (filter f xs) ≡ true
all_filtered f [] = refl
all_filtered f (x ∷ xs) = by (f x) refl (all_filtered f xs)
  where
    by : (b : Bool) → f x ≡ b → list_all f (filter f xs) ≡ true → list_all f (cond b (x ∷ filter f xs) (filter f xs)) ≡ true
    by true e h = ap (λ (b : Bool). b && list_all f (filter f xs)) e ∙ h
    by false e h = h

same_filtered : (js : List Judged) → list_all t.is_ordinary (map placed_at js) ≡ true → filter is_ordinary js ≡ js
same_filtered [] h = refl
same_filtered (j ∷ js) h =
    ap (λ (b : Bool). cond b (j ∷ filter is_ordinary js) (filter is_ordinary js)) (and_left (is_ordinary j) (list_all t.is_ordinary (map placed_at js)) h)
    ∙ ap (λ ys. j ∷ ys) (same_filtered js (and_right (is_ordinary j) (list_all t.is_ordinary (map placed_at js)) h))

module _ (p : Prog) (set : ℕ → Bool) (budget : Budget) (words : ℕ → Cause → t.Why) (none_fail : NoFailures p set) where
  true_at : (u : Place) (v : Verdict) → IsRight budget p set u v → IsTrueAt p set u (verdict_of words v)
  true_at u (Proved proof) h =
      let x = certified p set u proof h in none_fail u x.lines x.cert x.certificate
  true_at u (Refuted cex) h = (h.0, h.1.1)
  true_at u (Unknown rounds cause) h = tt
  true_at u (Left kept) h = tt

  all_true : (js : List Judged) → AreRightAt budget p set js → AreTrueAt p set (map (told_one words) js)
  all_true [] h = tt
  all_true (j ∷ js) h = (true_at (placed_at j).place j.verdict h.0, all_true js h.1)

proved_one : (words : ℕ → Cause → t.Why) (v : Verdict) → t.is_refuted (verdict_of words v) ≡ false → t.is_unknown (verdict_of words v) ≡ false → is_proved v ≡ true
proved_one words (Proved proof) a b = refl
proved_one words (Refuted cex) a b = absurd (let bad : true ≡ false = a in cc)
proved_one words (Unknown rounds cause) a b = absurd (let bad : true ≡ false = b in cc)
proved_one words (Left kept) a b = absurd (let bad : true ≡ false = b in cc)

or_none : (a b : Bool) → (a || b) ≡ false → (a ≡ false) × (b ≡ false)
or_none true b h = absurd (let bad : true ≡ false = h in cc)
or_none false b h = (refl, h)

proved_all : (words : ℕ → Cause → t.Why) (js : List Judged) → list_any (λ j. t.is_refuted j.verdict) (map (told_one words) js) ≡ false → list_any (λ j. t.is_unknown j.verdict) (map (told_one words) js) ≡ false → are_proved js ≡ true
proved_all words [] a b = refl
proved_all words (j ∷ js) a b =
    let x = or_none (t.is_refuted (verdict_of words j.verdict)) _ a in
    let y = or_none (t.is_unknown (verdict_of words j.verdict)) _ b in
    ap (λ (z : Bool). z && are_proved js) (proved_one words j.verdict x.0 y.0) ∙ proved_all words js x.1 y.1

word_parts : (a b : Bool) → (if a then t.SomeRefuted else if b then t.SomeUnknown else t.AllProved) ≡ t.AllProved → (a ≡ false) × (b ≡ false)
word_parts true b h = absurd (let bad : ⊥ = cc in bad)
word_parts false true h = absurd (let bad : ⊥ = cc in bad)
word_parts false false h = (refl, refl)

pub true_from : (p : r.Program) (set : ℕ → Bool) (budget : Budget) (words : ℕ → Cause → t.Why) → NoFailures (meaning_of p) set → (k : ℕ) (ms : List r.Impl) (os : List (List Judged)) → AreRightFrom budget p set k ms os → ProvedAreSafe p set k os → AreTrueFrom p set k ms (map (told words) os)
true_from p set budget words f k [] [] h s = tt
true_from p set budget words f k [] (js ∷ os) h s = absurd h
true_from p set budget words f k (m ∷ ms) [] h s = absurd h
true_from p set budget words f k (m ∷ ms) (js ∷ os) h s =
    let whole : filter is_ordinary js ≡ js = same_filtered js (ap (list_all t.is_ordinary) h.0.places ∙ all_filtered t.is_ordinary (placed_impl p.procedures k m)) in
    let same : told words js ≡ map (told_one words) js = ap (map (told_one words)) whole in (
      record {
        places = ap (map t.placed_at) same ∙ (same_placed words js ∙ h.0.places);
        right = subst (AreTrueAt (meaning_of p) set) (sym same) (all_true (meaning_of p) set budget words f js h.0.right);
        safe = λ w.
            let a = word_parts (list_any (λ j. t.is_refuted j.verdict) (told words js)) (list_any (λ j. t.is_unknown j.verdict) (told words js)) w in
            s.0 (ap are_proved (sym whole) ∙ proved_all words (filter is_ordinary js) a.0 a.1);
      },
      true_from p set budget words f (suc k) ms os h.1 s.1,
    )
