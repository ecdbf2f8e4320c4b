-- The values and tables that are found to meet the axioms are met by the certificate's check.
use Rattle.std.proofs.Common.{◌≡◌, ℕ, Bool, true, false, List, [], ◌∷◌, length, map, Option, Some, refl, sym, ap, ◌∙◌, subst, arith}
use Rattle.std.specs.Prelude.{is_some}
use Rattle.std.proofs.lemmas.List.{length-map}
use Rattle.bg_ast.specs.Syntax.{Impl, Proc, Const, Prog}
use Rattle.bg_ast.specs.Resolved as r
use Rattle.bg_ast.specs.Meaning.{meaning_of}
use Rattle.bg_sense.specs.Flow.{Failed}
use Rattle.bg_sense.specs.Types.{are_of, types_of}
use Rattle.bg_sense.specs.Variables.{procedure_of}
use Rattle.bg_flow.specs.Core.{frame_decls}
use Rattle.bg_block_types.specs.Typed.{blocks_in}
use Rattle.bg_ast.specs.Values.{Val, Ty, Table}
use Rattle.bg_scalar.specs.Choices.{choice_of}
use Rattle.bg_scalar.specs.Views.{tables_in, vals_in}
use Rattle.bg_replay.specs.Moments.{Around}
use Rattle.bg_replay.specs.Said.{Said, Stops}
use Rattle.bg_replay.specs.Ways.{runs}
use Rattle.bg_replay.specs.Endings.{moment_in}
use Rattle.bg_model.specs.declared.failure.Counterexample.{Counterexample}
use Rattle.bg_sound.specs.Told as t
use Rattle.bg_tree.specs.declared.outcome.Budget.{Budget}
use Rattle.bg_check.specs.declared.verdict.Cause.{Cause}
use Rattle.bg_check.specs.declared.verdict.Verdict.{Verdict}
use Rattle.bg_check.specs.declared.verdict.Verdict.TheVariants.{Proved, Refuted, Unknown, Left}
use Rattle.bg_check.specs.Verdicts.{IsRight}
use Rattle.bg_check.specs.Outcomes.{verdict_of}
use Rattle.bg_opened.specs.Programs.{global_for}
use Rattle.bg_opened.specs.Axioms.{axiom_place}
use Rattle.bg_opened.proofs.Claims.{are_of_length}
use Rattle.bg_expanded.specs.Chains.{most_bodies}
use Rattle.bg_carried.specs.Carried.{axioms_by}
use Rattle.bg_inference.specs.declared.outcome.Outcome.{Outcome}
use Rattle.bg_inference.specs.Outcomes.{IsTrueOutcome}
use Rattle.bg_certtext.specs.Views.{ValueOf, GivenOf, InterpOf, CertOf}
use Rattle.bg_confirm.specs.Typed.{values_fit}
use Rattle.bg_confirm.specs.Met.{vals_for, run_in, axioms_of, constant_types, values_in, IsMet}
use Rattle.bg_confirm.specs.Accepted.{AreMet, IsInterpMet}
use Rattle.bg_confirm.proofs.Candidates.{M, Q}
use Rattle.bg_certify.specs.Given.{values_of, givens, interp_by, type_names, constant_names}
use Rattle.bg_certify.specs.Given as given
use Rattle.bg_certify.specs.Written.{names_of}
use Rattle.bg_certify.proofs.Giving.{meant_types, names_back, values_given, values_back, values_fitting, given_to, functions_back, tables_back}
use Rattle.bg_certify.proofs.Straight.{runs_straight, blocks_straight}

-- ---- as many values as constants

const_count : (ks : List Const) → length (types_of (map global_for ks)) ≡ length ks
const_count [] = refl
const_count (k ∷ ks) = let h = const_count ks in omega (arith, h)

no_frame : (xs : List Val) → are_of [] xs ≡ true → xs ≡ []
no_frame [] h = refl
no_frame (x ∷ xs) h = absurd (let f : false ≡ true = h in cc)

module _ (budget : Budget) (p : r.Program) (set : ℕ → Bool) (cex : Counterexample) (right : IsRight budget (axioms_of p) set axiom_place (Refuted cex)) where
  abbrev P : Prog
  P = meaning_of p

  abbrev xs : List Val
  xs = vals_in cex.globals.items

  -- the constants' types, as written and as those of the axioms' own program
  abbrev written : List Ty
  written = given.constant_types p.types p.constants

  same : written ≡ constant_types p
  same = sym (meant_types p.types p.constants)

  abbrev gs : List GivenOf
  gs = givens (type_names p.types) (constant_names p.constants) written xs

  abbrev ts : List Table
  ts = tables_in cex.tables.items

  abbrev its : InterpOf
  its = record { constants = gs; functions = given_to p.types p.functions ts }

  count : length (constant_names p.constants) ≡ length xs
  count =
      let values = are_of_length (types_of (axioms_of p).globals) xs right.0.state.globals in
      length-map p.constants (λ c. c.name.text)
      ∙ (sym (length-map p.constants _) ∙ (sym (const_count P.constants) ∙ sym values))

  values : values_in its ≡ values_of (type_names p.types) (constant_types p) xs
  values =
      values_given p.types (constant_names p.constants) written xs count
      ∙ ap (λ (us : List Ty). values_of (type_names p.types) us xs) same

  back : vals_for (constant_types p) (values_in its) ≡ xs
  back =
      ap (λ (vs : List ValueOf). vals_for (constant_types p) vs) values
      ∙ values_back p.types (constant_types p) xs right.0.state.globals

  frame : vals_in cex.frame.items ≡ []
  frame = no_frame (vals_in cex.frame.items) right.0.state.frame

  -- the run of the counterexample, of these
  abbrev ran : Impl → Proc → List Val → List Val → Said
  ran m q ys fs =
      runs
      (record { set = set; tables = ts; before = ys; globals = types_of (axioms_of p).globals; frame = types_of (frame_decls m q) })
      0 (blocks_in (axioms_of p) 0 m q) (moment_in ys fs (map choice_of cex.choices.items))

  says : (m : Impl) (q : Proc) → M most_bodies P ≡ m → Q most_bodies P ≡ q → ran m q xs (vals_in cex.frame.items) ≡ Stops (Failed axiom_place.spot) → run_in (axioms_of p) set 0 m q ts (vals_for (constant_types p) (values_in its)) ≡ Stops (Failed axiom_place.spot)
  says m q em eq h =
      let around : Around = record {
        set = set;
        tables = ts;
        before = xs;
        globals = types_of (axioms_of p).globals;
        frame = types_of (frame_decls (M most_bodies P) (Q most_bodies P));
      } in
      ap (λ (ys : List Val). run_in (axioms_of p) set 0 m q ts ys) back
      ∙ (ap (λ (n : Impl). run_in (axioms_of p) set 0 n q ts xs) (sym em)
      ∙ (ap (λ (n : Proc). run_in (axioms_of p) set 0 (M most_bodies P) n ts xs) (sym eq)
      ∙ (sym (runs_straight around 0 (blocks_in (axioms_of p) 0 (M most_bodies P) (Q most_bodies P)) (moment_in xs [] (map choice_of cex.choices.items)) (blocks_straight most_bodies P))
      ∙ (ap (λ (n : Proc). ran (M most_bodies P) n xs []) eq
      ∙ (ap (λ (n : Impl). ran n q xs []) em
      ∙ (ap (λ (fs : List Val). ran m q xs fs) (sym frame) ∙ h))))))

  met : IsMet p its
  met =
      let w = right.1.0 in
      let there : Some (M most_bodies P) ≡ Some w.implementation = w.is_there in
      let m : M most_bodies P ≡ w.implementation = cc in
      let its_proc : Some (Q most_bodies P) ≡ Some w.procedure = ap (λ (x : Impl). procedure_of (axioms_of p) x.procedure) m ∙ w.is_its in
      let q : Q most_bodies P ≡ w.procedure = cc in
      record {
        named = names_back p.types (constant_names p.constants) written xs count;
        typed =
            ap (λ (vs : List ValueOf). values_fit p.types (constant_types p) vs) values
            ∙ values_fitting p.types (constant_types p) xs right.0.state.globals;
        normal = ap (λ (ys : List Val). are_of (constant_types p) ys) back ∙ right.0.state.globals;
        functions = functions_back p.types p.functions ts right.0.meets.interp.tables;
        tables = ts;
        are_its = tables_back p.types p.functions ts right.0.meets.interp.tables;
        typed_tables = right.0.meets.interp.tables;
        set = set;
        met = record {
          implementation = w.implementation;
          procedure = w.procedure;
          is_there = w.is_there;
          is_its = w.is_its;
          says = says w.implementation w.procedure m q w.says;
        };
      }

-- ---- of an outcome

module _ (keeps : Bool) (budget : Budget) (p : r.Program) (o : Outcome) (true_of : IsTrueOutcome keeps budget p o) (words : ℕ → Cause → t.Why) (c : CertOf) where
  pub found_met : c.interp ≡ interp_by (names_of p) o.axioms → t.is_contradictory (axioms_by (verdict_of words o.axioms)) ≡ false → t.is_undecided (axioms_by (verdict_of words o.axioms)) ≡ false →
      (is_some c.interp ≡ true) × IsInterpMet p c
  found_met e a b = by o.axioms true_of.axioms e a b
    where
      by : (v : Verdict) → IsRight budget (axioms_of p) true_of.set axiom_place v → c.interp ≡ interp_by (names_of p) v → t.is_contradictory (axioms_by (verdict_of words v)) ≡ false → t.is_undecided (axioms_by (verdict_of words v)) ≡ false →
          (is_some c.interp ≡ true) × IsInterpMet p c
      by (Proved proof) h f a b = absurd (let g : true ≡ false = a in cc)
      by (Refuted cex) h f a b = (
        ap is_some f,
        subst (λ (x : Option InterpOf). AreMet p x) (sym f) (met budget p true_of.set cex h),
      )
      by (Unknown rounds cause) h f a b = absurd (let g : true ≡ false = b in cc)
      by (Left kept) h f a b = absurd (let g : true ≡ false = b in cc)
