-- What is claimed of an opened program is so of the program.
use Rattle.std.proofs.Common.{◌≡◌, ◌<◌, ℕ, zero, suc, arith, Bool, true, false, List, [], ◌∷◌, length, Some, None, refl, sym, ap, ◌∙◌, subst}
use Rattle.std.specs.Prelude.{◌↔◌, ◌&&◌, slice_get, Contains}
use Rattle.std.specs.List.{list_all}
use Rattle.bg_ast.specs.Syntax.{Ex, Const, Fun, Prog}
use Rattle.bg_ast.specs.Execution.{Interp, State, Choice, Place}
use Rattle.bg_sense.specs.Eval.{holds_alone}
use Rattle.bg_sense.specs.Types.{types_of, const_types}
use Rattle.bg_sense.specs.Interps.{are_distinct, all_hold, Meets}
use Rattle.bg_sense.specs.Typed.{IsTypedProc, IsTypedImpl, IsTyped}
use Rattle.bg_sense.specs.Resolved.{IsResolved}
use Rattle.bg_sense.specs.Clauses.{is_kept}
use Rattle.bg_sense.specs.Run.{induction_run}
use Rattle.bg_sense.specs.Places.{places}
use Rattle.bg_sense.specs.Claims.{IsState, Safe, Fails, Inductive, Greatest}
use Rattle.bg_sense.proofs.TypedPrograms.{typed_safe}
use Rattle.bg_sense.proofs.Bools.{both}
use Rattle.bg_fits.specs.Valued.{is_over_values}
use Rattle.bg_opened.specs.Programs.{opened_program}
use Rattle.bg_opened.specs.Moments.{tables_of, with_constants, interp_in, without_constants}
use Rattle.bg_opened.specs.Judged.{const_judged, fun_judged, is_judged}
use Rattle.bg_opened.specs.Openable.{IsOpenable}
use Rattle.bg_opened.specs.Axioms.{bare, claims_false, of_axioms, axiom_program, axiom_place, no_state}
use Rattle.bg_opened.proofs.Plain.{is_over_plain, over_plain as plain_is_scalar}
use Rattle.bg_opened.proofs.Places.{places_alike}
use Rattle.bg_opened.proofs.Resolves.{resolved, all_each}
use Rattle.bg_opened.proofs.Fairs.{types_length}
use Rattle.bg_opened.proofs.Uniques.{claims_hold}
use Rattle.bg_opened.proofs.Claims.{are_of_length, runs_alike, opened_fails, program_fails, program_runs}
use Rattle.bg_opened.proofs.Programs.{program_typed}
use Rattle.bg_opened.proofs.Scalars.{over_plain, constants_judged, functions_judged}

module _ (depth : ℕ) (p : Prog) (h : IsOpenable depth p) where
  abbrev o : Prog
  o = opened_program depth p

  plain : is_over_plain p.functions o ≡ true
  plain = over_plain depth p h.typed h.chains h.judged

  pub scalars : is_over_values o ≡ true
  scalars = plain_is_scalar p.functions o plain

  pub typed : IsTyped o
  typed = program_typed depth p h.typed h.resolved h.recursion plain

  pub is_resolved : IsResolved o
  is_resolved = resolved depth p h.resolved

  pub runs : (set : ℕ → Bool) (i : Interp) (k : ℕ) (s : State) (choices : List Choice) → Meets p i → IsState p k s → induction_run o set (tables_of i) k (with_constants i s) choices ≡ induction_run p set i k s choices
  runs set i k s choices m st =
      runs_alike depth p i (tables_of i) (λ f n. refl) h.typed h.resolved h.recursion plain set k s choices (claims_hold p i (are_of_length (const_types p.constants) i.constants m.interp.constants) ∙ both (are_distinct p.constants i.constants) (all_hold p i p.axioms) m.unique m.axioms) (are_of_length (types_of p.globals) s.globals st.globals ∙ types_length p.globals)

  pub opens : (set : ℕ → Bool) (t : Place) (i : Interp) (s : State) (choices : List Choice) → Fails p set t i s choices → Fails o set t (tables_of i) (with_constants i s) choices
  opens set t i s choices f = opened_fails depth p h.typed h.resolved h.recursion plain (constants_judged p h.judged) set t i s choices f

  pub closes : (set : ℕ → Bool) (t : Place) (i : Interp) (s : State) (choices : List Choice) → Fails o set t i s choices → Fails p set t (interp_in p i s) (without_constants p s) choices
  closes set t i s choices f =
      program_fails depth p h.typed h.resolved h.recursion plain (constants_judged p h.judged) set t i s choices f

  pub closed_runs : (set : ℕ → Bool) (t : Place) (i : Interp) (s : State) (choices others : List Choice) → Fails o set t i s choices → induction_run p set (interp_in p i s) t.implementation (without_constants p s) others ≡ induction_run o set i t.implementation s others
  closed_runs set t i s choices others f =
      program_runs depth p h.typed h.resolved h.recursion plain (constants_judged p h.judged) set t i s choices f others

  same_places : places o ≡ places p
  same_places = places_alike depth p

  pub inductive : (set : ℕ → Bool) → Inductive o set ↔ Inductive p set
  inductive set = (
    λ k t b c e y i s choices f. k t b (subst (λ l. Contains l t) (sym same_places) c) e y (tables_of i) (with_constants i s) choices (opens set t i s choices f),
    λ k t b c e y i s choices f. k t b (subst (λ l. Contains l t) same_places c) e y (interp_in p i s) (without_constants p s) choices (closes set t i s choices f),
  )

  pub greatest : (set : ℕ → Bool) → Greatest o set → Greatest p set
  greatest set k =
      record {
        is_set = k.is_set;
        inductive = (inductive set).0 k.inductive;
        above = λ other is j. k.above other is ((inductive other).1 j);
      }

  pub safe : (set : ℕ → Bool) (k : ℕ) → k < length p.implementations → ((t : Place) (i : Interp) (s : State) (choices : List Choice) → Contains (places p) t → t.implementation ≡ k → is_kept set t.candidate ≡ true → Fails o set t i s choices → ⊥) → Safe p set k
  safe set k l f =
      typed_safe p set k h.typed l (λ t i s choices c e y x. f t (tables_of i) (with_constants i s) choices c e y (opens set t i s choices x))

-- ---- the axioms' own program

module _ (depth : ℕ) (p : Prog) (h : IsOpenable depth p) where
  abbrev q : Prog
  q = of_axioms p

  q_typed : IsTyped q
  q_typed =
      record {
        globals = λ k d l. absurd (omega arith);
        axioms = h.typed.axioms;
        bodies = h.typed.bodies;
        plain_bodies = h.typed.plain_bodies;
        procedures = all_each (IsTypedProc q) (bare ∷ []) (
          record {
            params = λ k d l. absurd (omega arith);
            results = λ k d l. absurd (omega arith);
            requires_ = λ k d l. absurd (omega arith);
            ensures_ = λ k d l. absurd (omega arith);
          },
          tt,
        );
        implementations = all_each (IsTypedImpl q) (claims_false ∷ []) (
          record {
            procedure = bare;
            is_there = refl;
            locals = λ k d l. absurd (omega arith);
            body = ((refl, (refl, tt)), tt);
          },
          tt,
        );
      }

  q_resolved : IsResolved q
  q_resolved =
      record {
        implemented = all_each (λ m. m.procedure < 1) (claims_false ∷ []) (omega arith, tt);
        called = λ k d l. absurd (omega arith);
        clauses = ((λ c. let l = c.1 in absurd (omega arith)), tt);
        calls = tt;
        branches = tt;
        labels = all_each (λ m. Rattle.bg_sense.specs.Resolved.AreDifferent (Rattle.bg_sense.specs.Resolved.labels_in m.body)) (claims_false ∷ []) (tt, tt);
        modifies = rise;
        candidates = λ k c. guard k c;
      }
    where
      rise : (k : ℕ) (r : Rattle.bg_ast.specs.Syntax.Proc) → slice_get (bare ∷ []) k ≡ Some r → Rattle.bg_sense.specs.Resolved.Rise 0 0 r.modifies
      rise zero r e = let same : bare ≡ r = cc in subst (λ x. Rattle.bg_sense.specs.Resolved.Rise 0 0 x.modifies) same tt
      rise (suc k) r e = absurd (let bad : ⊥ = cc in bad)

      one : Rattle.bg_ast.specs.Syntax.Clause
      one = record { id = 0; is_free = false; candidate = None; says = Rattle.bg_ast.specs.Syntax.Fact false }

      guard : (k : Rattle.bg_ast.specs.Syntax.Clause) → Contains (record { id = 0; is_free = false; candidate = None; says = Rattle.bg_ast.specs.Syntax.Fact false } ∷ []) k → Rattle.bg_sense.specs.Resolved.HasCandidate 0 k.candidate k
      guard k (zero, l, e) = subst (λ x. Rattle.bg_sense.specs.Resolved.HasCandidate 0 x.candidate x) e tt
      guard k (suc n, l, e) = absurd (omega arith)

  q_judged : is_judged q ≡ true
  q_judged =
      both (list_all const_judged p.constants) (list_all fun_judged p.functions && true) (constants_judged p h.judged) (both (list_all fun_judged p.functions) true (functions_judged p h.judged) refl)

  pub q_openable : IsOpenable depth q
  q_openable =
      record {
        typed = q_typed;
        resolved = q_resolved;
        recursion = record { rank = h.recursion.rank; is_place = h.recursion.is_place; falls = h.recursion.falls };
        judged = q_judged;
        chains = record { chain = h.chains.chain; deep = h.chains.deep; falls = h.chains.falls };
      }

  hold_alike : (i : Interp) (es : List Ex) → all_hold q i es ≡ all_hold p i es
  hold_alike i [] = refl
  hold_alike i (e ∷ es) = ap (λ t. holds_alone p i e && t) (hold_alike i es)

  to_q : (i : Interp) → Meets p i → Meets q i
  to_q i m =
      record {
        interp = record { constants = m.interp.constants; tables = m.interp.tables };
        unique = m.unique;
        axioms = hold_alike i p.axioms ∙ m.axioms;
      }

  from_q : (i : Interp) → Meets q i → Meets p i
  from_q i m =
      record {
        interp = record { constants = m.interp.constants; tables = m.interp.tables };
        unique = m.unique;
        axioms = sym (hold_alike i p.axioms) ∙ m.axioms;
      }

  pub met : (set : ℕ → Bool) (i : Interp) → Meets p i → Fails (axiom_program depth p) set axiom_place (tables_of i) (with_constants i no_state) []
  met set i m =
      opens depth q q_openable set axiom_place i no_state [] (record { meets = to_q i m; state = record { globals = refl; frame = refl }; fails = refl })

  pub meets : (set : ℕ → Bool) (i : Interp) (s : State) (choices : List Choice) → Fails (axiom_program depth p) set axiom_place i s choices → Meets p (interp_in q i s)
  meets set i s choices f = from_q (interp_in q i s) (closes depth q q_openable set axiom_place i s choices f).meets
