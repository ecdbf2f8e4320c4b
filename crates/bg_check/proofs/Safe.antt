-- An implementation is safe under an inductive set of which each ordinary place is proved.
use Rattle.std.proofs.Common.{◌≡◌, ℕ, zero, suc, ◌+◌, ◌<◌, Bool, true, false, cond, List, [], ◌∷◌, length, map, Option, Some, None, is_none, refl, sym, ap, ◌∙◌, subst, inl, inr, arith}
use Rattle.std.specs.Prelude.{slice_get, filter}
use Rattle.std.proofs.lemmas.List.{length-map}
use Rattle.bg_ast.specs.Syntax.{Prog}
use Rattle.bg_ast.specs.Resolved as r
use Rattle.bg_ast.specs.Meaning.{meaning_of, named_of, impl_of}
use Rattle.bg_ast.specs.Execution.{Place}
use Rattle.bg_sense.specs.Typed.{IsTyped}
use Rattle.bg_sense.specs.Places.{places}
use Rattle.bg_sense.specs.Claims.{Safe, Inductive}
use Rattle.bg_sense.specs.Clauses.{is_kept}
use Rattle.bg_sense.proofs.Bools.{and_left, and_right}
use Rattle.bg_sense.proofs.Members.{In, member}
use Rattle.bg_places.specs.Placed.{Placed, place_in, placed_impl}
use Rattle.bg_cert.specs.Walks.{no_instance}
use Rattle.bg_fits.specs.Valued.{is_over_values}
use Rattle.bg_tree.specs.declared.outcome.Budget.{Budget}
use Rattle.bg_sound.specs.Told.{is_ordinary}
use Rattle.bg_check.specs.declared.verdict.Verdict.{Verdict}
use Rattle.bg_check.specs.declared.verdict.Verdict.TheVariants.{Proved, Refuted, Unknown, Left}
use Rattle.bg_check.specs.declared.verdict.Judged.{Judged}
use Rattle.bg_check.specs.Verdicts.{IsCertified, IsRight, placed_at, AreRightAt, AreRightOf, AreRightFrom, AreRightUnder, is_proved, are_proved, ProvedAreSafe}
use Rattle.bg_check.proofs.Shown.{certified}
use Rattle.bg_check.proofs.LawTypes.{SafeLaw, PlaceLaw, InsideLaw}
use Rattle.bg_task.proofs.LawTypes.{FunctionLaw, BodyLaw, PassiveLaw, FitLaw, DenyLaw, MetLaw, CertLaw, UsedLaw, UnitAtomLaw, NamedUnitLaw}
use Rattle.bg_task.proofs.Failures.{no_failure}
use Rattle.bg_task.proofs.Numbered.{has}

-- a place that is proved has a certificate
proof_of : (budget : Budget) (p : Prog) (set : ℕ → Bool) (t : Place) (v : Verdict) → IsRight budget p set t v → is_proved v ≡ true → IsCertified p set t
proof_of budget p set t (Proved proof) h e = certified p set t proof h
proof_of budget p set t (Refuted cex) h e = absurd (let bad : ⊥ = cc in bad)
proof_of budget p set t (Unknown rounds cause) h e = absurd (let bad : ⊥ = cc in bad)
proof_of budget p set t (Left kept) h e = absurd (let bad : ⊥ = cc in bad)

judged_place : (budget : Budget) (p : Prog) (set : ℕ → Bool) (js : List Judged) (t : Place) → AreRightAt budget p set js → are_proved js ≡ true → In (map place_in (map placed_at js)) t → IsCertified p set t
judged_place budget p set [] t h e i = absurd i
judged_place budget p set (j ∷ js) t h e (inl s) =
    subst (IsCertified p set) s (proof_of budget p set (placed_at j).place j.verdict h.0 (and_left (is_proved j.verdict) (are_proved js) e))
judged_place budget p set (j ∷ js) t h e (inr i) =
    judged_place budget p set js t h.1 (and_right (is_proved j.verdict) (are_proved js) e) i

-- a place without a candidate is one of the ordinary ones
among_ordinary : (xs : List Placed) (u : Place) → u.candidate ≡ None → In (map place_in xs) u → In (map place_in (filter is_ordinary xs)) u
among_ordinary [] u e i = absurd i
among_ordinary (a ∷ xs) u e (inl s) =
    let is : is_ordinary a ≡ true = ap (λ (t : Place). is_none t.candidate) s ∙ ap is_none e in
    subst (λ (b : Bool). In (map place_in (cond b (a ∷ filter is_ordinary xs) (filter is_ordinary xs))) u) (sym is) (inl s)
among_ordinary (a ∷ xs) u e (inr i) = behind (is_ordinary a) (among_ordinary xs u e i)
  where
    behind : (b : Bool) → In (map place_in (filter is_ordinary xs)) u → In (map place_in (cond b (a ∷ filter is_ordinary xs) (filter is_ordinary xs))) u
    behind true h = inr h
    behind false h = h

module _ (functions : FunctionLaw) (bodies : BodyLaw) (safe : SafeLaw) (place : PlaceLaw) (runs : PassiveLaw) (fits : FitLaw) (denies : DenyLaw) (met : MetLaw) (certs : CertLaw) (used : UsedLaw) (units : UnitAtomLaw) (named : NamedUnitLaw) (inside : InsideLaw) (set : ℕ → Bool) (budget : Budget) (p : r.Program) (t : IsTyped (meaning_of p)) (o : is_over_values (meaning_of p) ≡ true) (inductive : Inductive (meaning_of p) set) where
  one_safe : (k : ℕ) (m : r.Impl) (js : List Judged) → slice_get p.implementations k ≡ Some m → AreRightOf budget p set k m js → are_proved js ≡ true → Safe (meaning_of p) set k
  one_safe k m js at right proved =
      safe (meaning_of p) set k t below
      (λ u i s choices c number kept fails.
      let h = has p.procedures 0 p.implementations u (subst (λ l. In l u) (sym (place p)) (member (places (meaning_of p)) u c)) in
      let same : h.index ≡ k = index_is h.index u number h.number in
      let mine : Some h.implementation ≡ Some m = sym h.there ∙ (ap (slice_get p.implementations) same ∙ at) in
      let is : h.implementation ≡ m = cc in
      let inside_it = subst (λ x. In (map place_in (placed_impl p.procedures k x)) u) is (subst (λ x. In (map place_in (placed_impl p.procedures x h.implementation)) u) number h.member) in
      let ordinary : u.candidate ≡ None → ⊥ = λ bare.
      let x = judged_place budget (meaning_of p) set js u right.right proved (subst (λ l. In (map place_in l) u) (sym right.places) (among_ordinary (placed_impl p.procedures k m) u bare inside_it)) in
      no_failure functions bodies runs fits denies met (meaning_of p) t o certs used units named set set u x.lines x.cert x.certificate (λ n g. inside x.certificate.formula set no_instance x.cert x.certificate.accepted n g) i s choices fails in
      by_candidate u.candidate ordinary (λ b e. inductive u b c e (ap (is_kept set) (sym e) ∙ kept) i s choices fails))
    where
      there : (ms : List r.Impl) (j : ℕ) → slice_get ms j ≡ Some m → j < length ms
      there [] j e = absurd (let bad : ⊥ = cc in bad)
      there (x ∷ ms) zero e = omega arith
      there (x ∷ ms) (suc j) e = let l = there ms j e in omega (arith, l)

      below : k < length (meaning_of p).implementations
      below =
          let l = there p.implementations k at in
          let e = length-map p.implementations (impl_of (named_of p.types)) in
          omega (arith, l, e)

      index_is : (x : ℕ) (u : Place) → u.implementation ≡ k → u.implementation ≡ 0 + x → x ≡ k
      index_is x u a b = omega (arith, a, b)

      by_candidate : (c : Option ℕ) → (c ≡ None → ⊥) → ((b : ℕ) → c ≡ Some b → ⊥) → ⊥
      by_candidate None f g = f refl
      by_candidate (Some b) f g = g b refl

  all_safe : (ms : List r.Impl) (k : ℕ) (os : List (List Judged)) → ((j : ℕ) (m : r.Impl) → slice_get ms j ≡ Some m → slice_get p.implementations (k + j) ≡ Some m) → AreRightFrom budget p set k ms os → ProvedAreSafe p set k os
  all_safe [] k [] at h = tt
  all_safe [] k (js ∷ os) at h = absurd h
  all_safe (m ∷ ms) k [] at h = absurd h
  all_safe (m ∷ ms) k (js ∷ os) at h = (
    one_safe k m js (ap (slice_get p.implementations) (omega arith) ∙ at 0 m refl) h.0,
    all_safe ms (suc k) os (λ j q e. ap (slice_get p.implementations) (omega arith) ∙ at (suc j) q e) h.1,
  )

  pub proved_safe : (os : List (List Judged)) → AreRightUnder set budget p os → ProvedAreSafe p set 0 os
  proved_safe os h = all_safe p.implementations 0 os (λ j m e. ap (slice_get p.implementations) (omega arith) ∙ e) h
