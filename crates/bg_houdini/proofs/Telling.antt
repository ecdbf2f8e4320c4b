-- What a report tells of a true outcome is true.
use Rattle.std.proofs.Common.{◌≡◌, ℕ, zero, suc, ◌<◌, ◌≤◌, Bool, true, false, not, ltb, if◌then◌else◌, List, [], ◌∷◌, All, length, map, Option, Some, None, refl, sym, ap, ◌∙◌, subst, inl, inr, true≢false, arith}
use Rattle.std.specs.Prelude.{slice_get}
use Rattle.std.specs.List.{list_any}
use Rattle.std.proofs.lemmas.Bool.{ltb-true, ltb-false, eq-eqb, or_left, or_right}
use Rattle.std.proofs.lemmas.Option.{slice_get_past}
use Rattle.std.proofs.lemmas.List.Elements.{All-nil, All-cons}
use mathlib.Core.Path.{fun_ext}
use Rattle.bg_ast.specs.Syntax.{Prog}
use Rattle.bg_ast.specs.Resolved as r
use Rattle.bg_ast.specs.Meaning.{meaning_of}
use Rattle.bg_ast.specs.Execution.{Place}
use Rattle.bg_sense.specs.Resolved.{IsResolved}
use Rattle.bg_sense.specs.Places.{places}
use Rattle.bg_sense.proofs.Bools.{and_left, and_right}
use Rattle.bg_sense.proofs.Members.{In, member}
use Rattle.bg_words.specs.Sets.{has}
use Rattle.bg_words.proofs.Sets.{not_true}
use Rattle.bg_words.proofs.Words.{has_past}
use Rattle.bg_tree.specs.declared.outcome.Budget.{Budget}
use Rattle.bg_rounds.specs.declared.keeper.Removal.{Removal}
use Rattle.bg_sound.specs.Told as t
use Rattle.bg_sound.specs.Sound.{IsRetained, AreUnchecked, AreTrueFrom, IsSound}
use Rattle.bg_check.specs.declared.verdict.Cause.{Cause}
use Rattle.bg_check.specs.Verdicts.{judged}
use Rattle.bg_check.specs.Outcomes.{told}
use Rattle.bg_houdini.specs.declared.reason.Reason.{Reason}
use Rattle.bg_houdini.specs.declared.reason.Reason.TheVariants.{Refuted, Unknown, Left}
use Rattle.bg_houdini.specs.declared.outcome.Outcome.{Outcome}
use Rattle.bg_houdini.specs.Outcomes.{IsTrueOutcome}
use Rattle.bg_houdini.specs.Told.{is_candidate, is_checked, first_of, fate_for, fate_by, fate, each_below, are_known, outcome_of}
use Rattle.bg_houdini.proofs.Members.{CertificatesHold}
use Rattle.bg_houdini.proofs.Means.{places_inductive, is_set, places_greatest}

length_each : {A : Type 0} (n : ℕ) (f : ℕ → A) → length (each_below n f) ≡ n
length_each zero f = refl
length_each (suc n) f = ap (λ (k : ℕ). suc k) (length_each n (λ k. f (suc k)))

each_at : {A : Type 0} (n : ℕ) (f : ℕ → A) (k : ℕ) → k < n → slice_get (each_below n f) k ≡ Some (f k)
each_at zero f k l = absurd (omega arith)
each_at (suc n) f zero l = refl
each_at (suc n) f (suc k) l = each_at n (λ j. f (suc j)) k (omega arith)

each_past : {A : Type 0} (n : ℕ) (f : ℕ → A) (k : ℕ) → n ≤ k → slice_get (each_below n f) k ≡ None
each_past n f k l = slice_get_past (each_below n f) k (let e = length_each n f in omega (arith, e, l))

-- a dropped candidate isn't told to be kept, and none is unchecked
dropped_for : (words : ℕ → Cause → t.Why) (d : Reason) → t.is_kept_by (fate_for words d) ≡ false
dropped_for words (Refuted cex) = refl
dropped_for words (Unknown rounds cause) = refl
dropped_for words (Left kept) = refl

dropped_by : (words : ℕ → Cause → t.Why) (o : Option (Removal Reason)) → t.is_kept_by (fate_by words o) ≡ false
dropped_by words None = refl
dropped_by words (Some d) = dropped_for words d.told

kept_by : (words : ℕ → Cause → t.Why) (here checked : Bool) (o : Option (Removal Reason)) → t.is_kept_by (if here then (if checked then t.Retained else t.Unchecked) else fate_by words o) ≡ here
kept_by words true true o = refl
kept_by words true false o = refl
kept_by words false checked o = dropped_by words o

-- the retained candidates that are told
told_retained : (words : ℕ → Cause → t.Why) (p : Prog) (o : Outcome) → length o.inferred.retained ≡ p.candidates → t.retained (outcome_of words p o) ≡ has o.inferred.retained
told_retained words p o long = fun_ext (λ b. by b (ltb b p.candidates) refl)
  where
    by : (b : ℕ) (x : Bool) → ltb b p.candidates ≡ x → t.retained (outcome_of words p o) b ≡ has o.inferred.retained b
    by b true e =
        ap t.is_kept_at (each_at p.candidates (fate words p o) b (ltb-true b p.candidates e))
        ∙ kept_by words (has o.inferred.retained b) (is_checked p b) (first_of b o.inferred.removals.items)
    by b false e =
        ap t.is_kept_at (each_past p.candidates (fate words p o) b (ltb-false b p.candidates e))
        ∙ sym (has_past o.inferred.retained b (let far = ltb-false b p.candidates e in omega (arith, far, long)))

-- a place of the candidate is seen
seen : (b : ℕ) (us : List Place) (u : Place) → In us u → u.candidate ≡ Some b → list_any (λ x. is_candidate b x.candidate) us ≡ true
seen b [] u i e = absurd i
seen b (x ∷ us) u (inl s) e =
    or_left (is_candidate b x.candidate) (list_any (λ y. is_candidate b y.candidate) us) (ap (λ (y : Place). is_candidate b y.candidate) s ∙ (ap (is_candidate b) e ∙ eq-eqb b b refl))
seen b (x ∷ us) u (inr i) e =
    or_right (is_candidate b x.candidate) (list_any (λ y. is_candidate b y.candidate) us) (seen b us u i e)

unchecked_for : (words : ℕ → Cause → t.Why) (d : Reason) → fate_for words d ≡ t.Unchecked → ⊥
unchecked_for words (Refuted cex) e = let bad : ⊥ = cc in bad
unchecked_for words (Unknown rounds cause) e = let bad : ⊥ = cc in bad
unchecked_for words (Left kept) e = let bad : ⊥ = cc in bad

unchecked_by : (words : ℕ → Cause → t.Why) (o : Option (Removal Reason)) → fate_by words o ≡ t.Unchecked → ⊥
unchecked_by words None e = let bad : ⊥ = cc in bad
unchecked_by words (Some d) e = unchecked_for words d.told e

unchecked_is : (words : ℕ → Cause → t.Why) (here checked : Bool) (o : Option (Removal Reason)) → (if here then (if checked then t.Retained else t.Unchecked) else fate_by words o) ≡ t.Unchecked → checked ≡ false
unchecked_is words true true o e = absurd (let bad : ⊥ = cc in bad)
unchecked_is words true false o e = refl
unchecked_is words false checked o e = absurd (unchecked_by words o e)

same_some : {A : Type 0} (x y : A) → Some x ≡ Some y → x ≡ y
same_some x y e = cc

told_unchecked : (words : ℕ → Cause → t.Why) (p : Prog) (o : Outcome) → AreUnchecked p (outcome_of words p o)
told_unchecked words p o b u is there e = by (ltb b p.candidates) refl
  where
    sees : is_checked p b ≡ true
    sees = seen b (places p) u (member (places p) u there) e

    by : (x : Bool) → ltb b p.candidates ≡ x → ⊥
    by true l =
        let same = same_some (fate words p o b) t.Unchecked (sym (each_at p.candidates (fate words p o) b (ltb-true b p.candidates l)) ∙ is) in
        true≢false (sym sees ∙ unchecked_is words (has o.inferred.retained b) (is_checked p b) (first_of b o.inferred.removals.items) same)
    by false l =
        let gone : None ≡ Some t.Unchecked = sym (each_past p.candidates (fate words p o) b (ltb-false b p.candidates l)) ∙ is in
        let bad : ⊥ = cc in bad

-- none is unknown where all are known
none_unknown : (ds : List (Removal Reason)) → are_known ds ≡ true → All (λ d. d.unknown ≡ false) ds
none_unknown [] e = All-nil (λ (d : Removal Reason). d.unknown ≡ false)
none_unknown (d ∷ ds) e =
    All-cons (λ (x : Removal Reason). x.unknown ≡ false) d ds (not_true d.unknown (and_left (not d.unknown) (are_known ds) e)) (none_unknown ds (and_right (not d.unknown) (are_known ds) e))

module _ (keeps : Bool) (budget : Budget) (p : r.Program) (o : Outcome) (hold : CertificatesHold (meaning_of p)) (resolved : IsResolved (meaning_of p)) (truth : IsTrueOutcome keeps budget p o) (words : ℕ → Cause → t.Why) where
  retained_is : (b : Bool) → are_known o.inferred.removals.items ≡ b → IsRetained (meaning_of p) (has o.inferred.retained) b
  retained_is true e = places_greatest keeps budget p o hold truth resolved (none_unknown o.inferred.removals.items e)
  retained_is false e = (is_set keeps budget p o hold truth, places_inductive keeps budget p o hold truth)

  pub sound : AreTrueFrom p (has o.inferred.retained) 0 p.implementations (map (told words) (judged o.verdicts.items)) → IsSound p (outcome_of words (meaning_of p) o)
  sound verdicts =
      let same = told_retained words (meaning_of p) o truth.inferred.count in
      record {
        candidates = length_each (meaning_of p).candidates (fate words (meaning_of p) o);
        axioms = (truth.interp, truth.axioms);
        retained_set = subst (λ (set : ℕ → Bool). IsRetained (meaning_of p) set (are_known o.inferred.removals.items)) (sym same) (retained_is (are_known o.inferred.removals.items) refl);
        unchecked = told_unchecked words (meaning_of p) o;
        implementations = subst (λ (set : ℕ → Bool). AreTrueFrom p set 0 p.implementations (map (told words) (judged o.verdicts.items))) (sym same) verdicts;
      }
