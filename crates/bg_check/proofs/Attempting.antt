-- A run that is tried begins with a state, and refutes the place where it fails there.
use Rattle.std.proofs.Common.{◌≡◌, ℕ, Bool, true, false, List, [], ◌∷◌, ◌++◌, length, take, map, Some, refl, sym, ap, ◌∙◌, subst}
use Rattle.std.specs.Prelude.{slice_get}
use Rattle.std.proofs.lemmas.List.{take-map}
use Rattle.bg_ast.specs.Values.{Val, Table}
use Rattle.bg_ast.specs.Syntax as s
use Rattle.bg_ast.specs.Syntax.{Fun}
use Rattle.bg_ast.specs.Resolved as r
use Rattle.bg_ast.specs.Meaning as m
use Rattle.bg_ast.specs.Meaning.{meaning_of}
use Rattle.bg_ast.specs.Views.{program_of, fun_of, type_name_of}
use Rattle.bg_ast.specs.declared.resolved.Resolved.{Resolved}
use Rattle.bg_ast.specs.declared.resolved.TypeName.{TypeName}
use Rattle.bg_ast.specs.declared.resolved.Function.{Function}
use Rattle.bg_ast.specs.Execution.{Interp, Spot, Place}
use Rattle.bg_sense.specs.Types.{are_of}
use Rattle.bg_sense.specs.Tables.{are_tables}
use Rattle.bg_sense.specs.Flow.{Failed}
use Rattle.bg_sense.specs.Context.{Turning}
use Rattle.bg_sense.specs.Run.{induction_run}
use Rattle.bg_sense.specs.Claims.{IsState}
use Rattle.bg_sense.specs.Variables.{procedure_of}
use Rattle.bg_sense.specs.Typed.{IsTyped}
use Rattle.bg_flow.specs.Core.{frame_decls}
use Rattle.bg_passive.specs.Incarnations.{MakesPassive, first_state}
use Rattle.bg_block_types.specs.Typed.{arrivals_in, incarnations_in}
use Rattle.bg_cert.specs.Walks.{has}
use Rattle.bg_blocks.specs.declared.block.Block.{Block}
use Rattle.bg_blocks.specs.Views.{block_of}
use Rattle.bg_places.specs.Views.{spot_of}
use Rattle.bg_places.specs.declared.place.Spot as places
use Rattle.bg_formed.specs.Formed.{FormBlock}
use Rattle.bg_kinds.specs.declared.kinds.ValueType.{ValueType}
use Rattle.bg_kinds.specs.Views.{ref_in}
use Rattle.bg_fits.specs.Valued.{is_over_values}
use Rattle.bg_terms.specs.Flat.{HaveNoBodies}
use Rattle.bg_terms.specs.Typed.{type_of}
use Rattle.bg_termed.specs.Termed.{count_in, terms_in}
use Rattle.bg_scalar.specs.Choices.{choice_of, state_of}
use Rattle.bg_scalar.specs.Views as view
use Rattle.bg_scalar.specs.Views.{tables_in, vals_in}
use Rattle.bg_scalar.specs.declared.table.Table as code
use Rattle.bg_scalar.specs.declared.choice.Choice as kept
use Rattle.bg_scalar.specs.declared.value.Value.{Value}
use Rattle.bg_replay.specs.Said.{Stops}
use Rattle.bg_replay.specs.Views.{said_by}
use Rattle.bg_replay.specs.Endings.{IsReplay}
use Rattle.bg_replay.specs.declared.ending.Ending.{Ending}
use Rattle.bg_replay.specs.declared.ending.Ending.TheVariants as ends
use Rattle.bg_model.specs.Interps.{interp_of}
use Rattle.bg_model.specs.Counterexamples.{SetUp, IsCounterexample}
use Rattle.bg_model.specs.declared.failure.Counterexample.{Counterexample}
use Rattle.bg_task.specs.declared.prepared.Prepared.{Prepared}
use Rattle.bg_task.specs.Prepared.{IsPrepared}
use Rattle.bg_task.proofs.LawTypes.{BodyLaw, FitLaw}
use Rattle.bg_task.proofs.Prepares.{impl, proc, impl_at, proc_at, frame_long, blocks_are, firsts_are}
use Rattle.bg_check.specs.Dropped.{FailsWithin}
use Rattle.bg_check.specs.Verdicts.{HasTypes}
use Rattle.bg_check.specs.Fitting.{meant}
use Rattle.bg_check.proofs.LawTypes.{StartLaw, MeetLaw, ReplayLaw}
use Rattle.bg_check.proofs.Refutes.{set_same}
use Rattle.bg_check.proofs.Replaying.{runs_to}

-- ---- how it begins

first_so_many : {A : Type 0} (xs ys : List A) → take (length xs) (xs ++ ys) ≡ xs
first_so_many [] ys = refl
first_so_many (x ∷ xs) ys = ap (λ zs. x ∷ zs) (first_so_many xs ys)

module _ (bodies : BodyLaw) (fits : FitLaw) (starts : StartLaw) (p : r.Program) (n : ℕ) (w : Prepared) (h : IsPrepared p n w) (t : IsTyped (meaning_of p)) (o : is_over_values (meaning_of p) ≡ true) where
  abbrev P : s.Prog
  P = meaning_of p

  abbrev M : s.Impl
  M = impl p n w h

  abbrev Q : s.Proc
  Q = proc p n w h

  im : slice_get P.implementations n ≡ Some M
  im = impl_at p n w h

  pr : procedure_of P M.procedure ≡ Some Q
  pr = proc_at p n w h

  -- the first types are those of the incarnations
  kinds_are : (ks : List ValueType) → ks ≡ take w.count w.kinds.items → map ref_in ks ≡ incarnations_in P n M Q
  kinds_are ks e =
      ap (map ref_in) e
      ∙ (sym (take-map ref_in w.count w.kinds.items)
      ∙ (ap (λ k. take k (map ref_in w.kinds.items)) h.count
      ∙ (ap (take (count_in P n M Q)) h.kinds ∙ first_so_many (incarnations_in P n M Q) (map type_of (terms_in P n M Q)))))

  module _ (Y : List Val) (typed : are_of (incarnations_in P n M Q) Y ≡ true) where
    set_up : SetUp P (map (block_of p) w.blocks.items) w.frame w.firsts.items Y n M Q (first_state P (frame_decls M Q) Y) (arrivals_in P n M Q).made (arrivals_in P n M Q).arrivals
    set_up =
        let a = arrivals_in P n M Q in
        let start = first_state P (frame_decls M Q) Y in
        let none : Interp = record { constants = []; tables = [] } in
        record {
          implementation = im;
          procedure = pr;
          blocks = blocks_are p n w h;
          frame_size = frame_long p n w h;
          firsts = firsts_are p n w h;
          suited =
              subst (MakesPassive P (frame_decls M Q) a.made a.arrivals) (sym (blocks_are p n w h)) (fits P (λ b. false) none n M Q start (bodies Turning P (λ b. false) none n M Q start t im pr));
          values = record { typed = typed; first = refl };
        }

    state_at : (forms : List FormBlock) (set : ℕ → Bool) (spot : Spot) (x : ℕ → Bool) (ts : List Table) (cex : Counterexample) → IsCounterexample P (map (block_of p) w.blocks.items) w.frame w.firsts.items forms set spot x Y ts cex → IsState P n (state_of (view.vals_in cex.globals.items) (view.vals_in cex.frame.items))
    state_at forms set spot x ts cex c =
        let a = arrivals_in P n M Q in
        subst (IsState P n) (c.starts n M Q (first_state P (frame_decls M Q) Y) a.made a.arrivals set_up) (starts P n M Q t o im pr Y typed)

  pub begins : (ks : List ValueType) (bs : List Block) (ns : List ℕ) (Y : List Val) (forms : List FormBlock) (set : ℕ → Bool) (spot : Spot) (x : ℕ → Bool) (ts : List Table) (cex : Counterexample) → ks ≡ take w.count w.kinds.items → bs ≡ w.blocks.items → ns ≡ w.firsts.items → are_of (map ref_in ks) Y ≡ true → IsCounterexample P (map (block_of p) bs) w.frame ns forms set spot x Y ts cex → IsState P n (state_of (view.vals_in cex.globals.items) (view.vals_in cex.frame.items))
  begins ks bs ns Y forms set spot x ts cex ek eb en typed c =
      state_at Y (subst (λ is. are_of is Y ≡ true) (kinds_are ks ek) typed) forms set spot x ts cex
      (subst (λ l. IsCounterexample P (map (block_of p) w.blocks.items) w.frame l forms set spot x Y ts cex) en (subst (λ l. IsCounterexample P (map (block_of p) l) w.frame ns forms set spot x Y ts cex) eb c))

-- ---- where it fails

pub failed_here : ReplayLaw → MeetLaw → (p : r.Program) → is_over_values (meaning_of p) ≡ true → HaveNoBodies (meaning_of p).functions → (set : List Bool) (t : Place) (cex : Counterexample) (w : Prepared) (h : IsPrepared p t.implementation w) (bs : List Block) (ts : List code.Table) (gs fs : List Value) (cs : List kept.Choice) (ending : Ending) → bs ≡ w.blocks.items → ts ≡ cex.tables.items → gs ≡ cex.globals.items → fs ≡ cex.frame.items → cs ≡ cex.choices.items → ((m : r.Impl) (q : r.Proc) → slice_get p.implementations t.implementation ≡ Some m → slice_get p.procedures m.procedure ≡ Some q → IsReplay p bs set t.implementation m q (tables_in ts) (vals_in gs) (vals_in fs) (map choice_of cs) ending) → (x : places.Spot) → ending ≡ ends.Failed x → spot_of x ≡ t.spot → are_tables (meaning_of p).functions (tables_in cex.tables.items) ≡ true → IsState (meaning_of p) t.implementation (state_of (vals_in cex.globals.items) (vals_in cex.frame.items)) → HasTypes cex → FailsWithin (meaning_of p) (has set) t cex
failed_here law meets p o none set t cex w h bs ts gs fs cs ending eb et eg ef ec replay x is at normal state types =
    let k = t.implementation in
    let m = h.implementation in
    let q = h.procedure in
    let gl = vals_in cex.globals.items in
    let fr = vals_in cex.frame.items in
    let ch = map choice_of cex.choices.items in
    let r0 = replay m q h.impl_there h.proc_there in
    let r1 = subst (λ y. IsReplay p y set k m q (tables_in ts) (vals_in gs) (vals_in fs) (map choice_of cs) ending) eb r0 in
    let r2 = subst (λ y. IsReplay p w.blocks.items set k m q (tables_in y) (vals_in gs) (vals_in fs) (map choice_of cs) ending) et r1 in
    let r3 = subst (λ y. IsReplay p w.blocks.items set k m q (tables_in cex.tables.items) (vals_in y) (vals_in fs) (map choice_of cs) ending) eg r2 in
    let r4 = subst (λ y. IsReplay p w.blocks.items set k m q (tables_in cex.tables.items) gl (vals_in y) (map choice_of cs) ending) ef r3 in
    let r5 = subst (λ y. IsReplay p w.blocks.items set k m q (tables_in cex.tables.items) gl fr (map choice_of y) ending) ec r4 in
    let told : said_by ending ≡ Stops (Failed t.spot) = ap said_by is ∙ ap (λ y. Stops (Failed y)) at in
    let run = law p set (interp_of cex) k m q w.blocks.items (tables_in cex.tables.items) gl fr ch ending none refl h.impl_there h.proc_there h.blocks r5 (Failed t.spot) told in (
      record {
        meets = meets (meaning_of p) (interp_of cex) o refl normal;
        state = state;
        fails = subst (λ u. induction_run (meaning_of p) u (interp_of cex) k (state_of gl fr) ch ≡ Failed t.spot) (set_same set) run;
      },
      (runs_to p k m q h.impl_there h.proc_there set t.spot t.candidate w.blocks.items cex ending (Stops (Failed t.spot)) h.blocks r5 told, types),
    )

-- ---- functions as the code has them

twice : {A B C : Type 0} (f : B → C) (g : A → B) (xs : List A) → map (λ x. f (g x)) xs ≡ map f (map g xs)
twice f g [] = refl
twice f g (x ∷ xs) = ap (λ ys. f (g x) ∷ ys) (twice f g xs)

-- tables that are tested are those of the program's functions
pub tables_here : (program : Resolved) (types : List TypeName) (functions : List Function) (ts : List code.Table) (cex : Counterexample) → types ≡ program.types.items → functions ≡ program.functions.items → ts ≡ cex.tables.items → HaveNoBodies (meaning_of (program_of program)).functions → (HaveNoBodies (map (meant types) functions) → are_tables (map (meant types) functions) (tables_in ts) ≡ true) → are_tables (meaning_of (program_of program)).functions (tables_in cex.tables.items) ≡ true
tables_here program types functions ts cex et ef es none ok =
    let named = m.named_of (map type_name_of program.types.items) in
    let same : map (meant types) functions ≡ (meaning_of (program_of program)).functions = ap (λ l. map (meant l) functions) et ∙ (ap (map (meant program.types.items)) ef ∙ twice (m.fun_of named) fun_of program.functions.items) in
    ap (λ l. are_tables (meaning_of (program_of program)).functions (tables_in l)) (sym es)
    ∙ (ap (λ (fs : List Fun). are_tables fs (tables_in ts)) (sym same) ∙ ok (subst HaveNoBodies (sym same) none))
