-- A replay over values tells how the run ends, and that of a counterexample fails at its check, or leaves the range.
use Rattle.std.proofs.Common.{◌≡◌, ℕ, Bool, true, List, map, Option, Some, refl, sym, ap, ◌∙◌, subst, inl, inr, ⊎_elim}
use Rattle.std.specs.Prelude.{◌⊎◌, slice_get, option_map}
use Rattle.std.proofs.lemmas.Option.{slice_get-map}
use Rattle.bg_base.specs.declared.exact.OutOfRange.{OutOfRange}
use Rattle.bg_ast.specs.Values as v
use Rattle.bg_ast.specs.Values.{Val, Ty}
use Rattle.bg_ast.specs.Execution as run
use Rattle.bg_ast.specs.Syntax as s
use Rattle.bg_ast.specs.Resolved as r
use Rattle.bg_ast.specs.Meaning.{meaning_of, named_of, impl_of, proc_of}
use Rattle.bg_ast.specs.Execution.{Spot, Place}
use Rattle.bg_sense.specs.Tables.{are_tables}
use Rattle.bg_sense.specs.Flow.{Answer, Ended, Blocked, Failed, BadChoice}
use Rattle.bg_sense.specs.Types.{are_of, types_of}
use Rattle.bg_sense.specs.Run.{induction_run}
use Rattle.bg_sense.specs.Variables.{procedure_of}
use Rattle.bg_sense.specs.Claims.{IsState, frame_of, frame_with}
use Rattle.bg_sense.specs.Typed.{IsTyped}
use Rattle.bg_flow.specs.Core.{frame_decls}
use Rattle.bg_flow.specs.Blocks as f
use Rattle.bg_block_types.specs.TypedFlow.{CodeIsTyped}
use Rattle.bg_cert.specs.Walks.{has}
use Rattle.bg_blocks.specs.Views.{block_of}
use Rattle.bg_blocks.specs.Whole.{AreBlocks}
use Rattle.bg_blocks.specs.declared.block.Block.{Block}
use Rattle.bg_places.specs.Views.{spot_of}
use Rattle.bg_fits.specs.Valued.{is_over_values}
use Rattle.bg_scalar.specs.Choices.{choice_of, state_of}
use Rattle.bg_scalar.specs.Views.{tables_in, vals_in}
use Rattle.bg_scalar.specs.declared.table.Table.{Table}
use Rattle.bg_scalar.specs.declared.choice.Choice.{Choice}
use Rattle.bg_scalar.specs.declared.value.Value.{Value}
use Rattle.bg_replay.specs.Said.{Said, Stops, Leaves, Unsaid}
use Rattle.bg_replay.specs.Ways.{runs}
use Rattle.bg_replay.specs.Views.{set_of, said_by}
use Rattle.bg_replay.specs.Endings.{Tells, IsOver, IsReplay, moment_in}
use Rattle.bg_replay.specs.declared.ending.Ending.{Ending}
use Rattle.bg_replay.specs.declared.ending.Ending.TheVariants as ends
use Rattle.bg_termed.proofs.Tabled.{tabled}
use Rattle.bg_model.specs.Interps.{interp_of}
use Rattle.bg_model.specs.declared.failure.Counterexample.{Counterexample}
use Rattle.bg_task.specs.declared.prepared.Prepared.{Prepared}
use Rattle.bg_task.specs.Prepared.{IsPrepared}
use Rattle.bg_check.specs.Replays.{run_in, RunsTo}
use Rattle.bg_check.specs.Verdicts.{IsFailure}
use Rattle.bg_check.proofs.LawTypes.{ReplayLaw, CodeLaw}
use Rattle.bg_check.proofs.Refutes.{set_same}
use Rattle.bg_check.proofs.Over.{typed_code_is_valued}

module _ (p : r.Program) (k : ℕ) (m : r.Impl) (q : r.Proc) (im : slice_get p.implementations k ≡ Some m) (pr : slice_get p.procedures m.procedure ≡ Some q) where
  abbrev named : ℕ → Ty
  named = named_of p.types

  abbrev P : s.Prog
  P = meaning_of p

  abbrev M : s.Impl
  M = impl_of named m

  abbrev Q : s.Proc
  Q = proc_of named q

  impl_there : slice_get P.implementations k ≡ Some M
  impl_there = slice_get-map (impl_of named) p.implementations k ∙ ap (option_map (impl_of named)) im

  proc_there : slice_get P.procedures m.procedure ≡ Some Q
  proc_there = slice_get-map (proc_of named) p.procedures m.procedure ∙ ap (option_map (proc_of named)) pr

  frame_is : frame_of P (slice_get P.implementations k) ≡ frame_decls M Q
  frame_is = ap (frame_of P) impl_there ∙ ap (λ x. frame_with x M) proc_there

  -- what a replay asks for
  is_over : CodeLaw → IsTyped P → is_over_values P ≡ true → (bs : List Block) (ts : List v.Table) (gs fs : List Val) → AreBlocks p k m q bs → are_tables P.functions ts ≡ true → IsState P k (state_of gs fs) → IsOver p m q bs ts gs fs
  is_over codes t o bs ts gs fs made tables state =
      let code = subst (CodeIsTyped P (frame_decls M Q)) (sym made) (codes P k M Q t impl_there proc_there) in
      record {
        blocks = typed_code_is_valued P (frame_decls M Q) o (map (block_of p) bs) code;
        typed = code;
        tables = tables;
        globals = state.globals;
        frame = ap (λ ds. are_of (types_of ds) fs) (sym frame_is) ∙ state.frame;
      }

  -- from a state of the implementation a replay tells how the run ends
  pub told : CodeLaw → IsTyped P → is_over_values P ≡ true → (set : List Bool) (bs : List Block) (ts : List v.Table) (gs fs : List Val) (cs : List run.Choice) (ending : Ending) → AreBlocks p k m q bs → are_tables P.functions ts ≡ true → IsState P k (state_of gs fs) → IsReplay p bs set k m q ts gs fs cs ending → Tells (said_by ending)
  told codes t o set bs ts gs fs cs ending made tables state replay =
      replay.tells (is_over codes t o bs ts gs fs made tables state)

  -- a replay's run is that of the implementation
  pub ran : (set : List Bool) (bs : List Block) (cex : Counterexample) (ending : Ending) → AreBlocks p k m q bs → IsReplay p bs set k m q (tables_in cex.tables.items) (vals_in cex.globals.items) (vals_in cex.frame.items) (map choice_of cex.choices.items) ending → run_in P (has set) k M Q cex ≡ said_by ending
  ran set bs cex ending made replay =
      let e = replay.ran in
      sym (e ∙ (ap (λ (u : ℕ → Bool). run_with u (map (block_of p) bs)) (set_same set) ∙ ap (run_with (has set)) made))
    where
      run_with : (ℕ → Bool) → List f.Block → Said
      run_with u l = runs (record { set = u; tables = tables_in cex.tables.items; before = vals_in cex.globals.items; globals = types_of P.globals; frame = types_of (frame_decls M Q) }) 0 l (moment_in (vals_in cex.globals.items) (vals_in cex.frame.items) (map choice_of cex.choices.items))

  pub runs_to : (set : List Bool) (spot : Spot) (candidate : Option ℕ) (bs : List Block) (cex : Counterexample) (ending : Ending) (said : Said) → AreBlocks p k m q bs → IsReplay p bs set k m q (tables_in cex.tables.items) (vals_in cex.globals.items) (vals_in cex.frame.items) (map choice_of cex.choices.items) ending → said_by ending ≡ said → RunsTo P (has set) (record { implementation = k; spot = spot; candidate = candidate }) cex said
  runs_to set spot candidate bs cex ending said made replay e =
      record { implementation = M; procedure = Q; is_there = impl_there; is_its = proc_there; says = ran set bs cex ending made replay ∙ e }

  -- the replay of a place that runs so says so
  pub says_again : (set : List Bool) (spot : Spot) (candidate : Option ℕ) (bs : List Block) (cex : Counterexample) (ending : Ending) (said : Said) → AreBlocks p k m q bs → IsReplay p bs set k m q (tables_in cex.tables.items) (vals_in cex.globals.items) (vals_in cex.frame.items) (map choice_of cex.choices.items) ending → RunsTo P (has set) (record { implementation = k; spot = spot; candidate = candidate }) cex said → said_by ending ≡ said
  says_again set spot candidate bs cex ending said made replay h =
      let a : Some h.implementation ≡ Some M = sym h.is_there ∙ impl_there in
      let im_is : h.implementation ≡ M = cc in
      let b : Some h.procedure ≡ Some Q = sym h.is_its ∙ (ap (λ x. procedure_of P x.procedure) im_is ∙ proc_there) in
      let pr_is : h.procedure ≡ Q = cc in
      sym (ran set bs cex ending made replay)
      ∙ (ap (λ x. run_in P (has set) k x Q cex) (sym im_is) ∙ (ap (λ x. run_in P (has set) k h.implementation x cex) (sym pr_is) ∙ h.says))

-- what is told is an answer, or an operation that leaves the range
answer_is : (ending : Ending) (y : Answer) → Tells (said_by ending) → ((x : Answer) → said_by ending ≡ Stops x → y ≡ x) → (said_by ending ≡ Stops y) ⊎ ((o : OutOfRange) × (said_by ending ≡ Leaves o))
answer_is ends.Ended y h k = inl (ap Stops (sym (k Ended refl)))
answer_is ends.Blocked y h k = inl (ap Stops (sym (k Blocked refl)))
answer_is (ends.Failed x) y h k = inl (ap Stops (sym (k (Failed (spot_of x)) refl)))
answer_is ends.BadChoice y h k = inl (ap Stops (sym (k BadChoice refl)))
answer_is (ends.OutOfRange o) y h k = inr (o, refl)
answer_is ends.NoValues y h k = absurd h

pub fails_or_leaves : ReplayLaw → CodeLaw → (p : r.Program) (set : List Bool) (t : Place) (cex : Counterexample) (m : r.Impl) (q : r.Proc) (bs : List Block) (ending : Ending) → IsTyped (meaning_of p) → is_over_values (meaning_of p) ≡ true → slice_get p.implementations t.implementation ≡ Some m → slice_get p.procedures m.procedure ≡ Some q → AreBlocks p t.implementation m q bs → IsFailure (meaning_of p) (has set) t cex → IsReplay p bs set t.implementation m q (tables_in cex.tables.items) (vals_in cex.globals.items) (vals_in cex.frame.items) (map choice_of cex.choices.items) ending → (said_by ending ≡ Stops (Failed t.spot)) ⊎ ((o : OutOfRange) × (said_by ending ≡ Leaves o))
fails_or_leaves law codes p set t cex m q bs ending typed o im pr made failure replay =
    let k = t.implementation in
    let gs = vals_in cex.globals.items in
    let fs = vals_in cex.frame.items in
    let cs = map choice_of cex.choices.items in
    let i = (interp_of cex) in
    let run = induction_run (meaning_of p) (set_of set) i k (state_of gs fs) cs in
    let fails : run ≡ Failed t.spot = ap (λ x. induction_run (meaning_of p) x i k (state_of gs fs) cs) (set_same set) ∙ failure.fails in
    ⊎_elim (λ e. inl (e ∙ ap Stops fails)) (λ e. inr e)
    (answer_is ending run (told p k m q im pr codes typed o set bs (tables_in cex.tables.items) gs fs cs ending made failure.meets.interp.tables failure.state replay)
    (law p set i k m q bs (tables_in cex.tables.items) gs fs cs ending (tabled (meaning_of p) o typed).bodies refl im pr made replay))

-- ---- what is made of an ending

-- an ending at the check, or at an operation that leaves the range
abbrev pub Arm : s.Prog → (ℕ → Bool) → Place → Counterexample → Ending → Type 0
Arm p set t cex (ends.OutOfRange o) = RunsTo p set t cex (Leaves o)
Arm p set t cex (ends.Failed x) = RunsTo p set t cex (Stops (Failed t.spot))
Arm p set t cex _ = ⊥

other_answer : (x : Answer) (spot : Spot) (y : Said) → y ≡ Stops x → ((x ≡ Failed spot) → ⊥) → (y ≡ Stops (Failed spot)) ⊎ ((o : OutOfRange) × (y ≡ Leaves o)) → ⊥
other_answer x spot y e differs h =
    ⊎_elim (λ a. differs (let same : Stops x ≡ Stops (Failed spot) = sym e ∙ a in cc)) (λ a. let bad : Stops x ≡ Leaves a.0 = sym e ∙ a.1 in let worse : ⊥ = cc in worse) h

pub arm : ReplayLaw → CodeLaw → (p : r.Program) (set : List Bool) (t : Place) (cex : Counterexample) (m : r.Impl) (q : r.Proc) (bs : List Block) (ending : Ending) → IsTyped (meaning_of p) → is_over_values (meaning_of p) ≡ true → slice_get p.implementations t.implementation ≡ Some m → slice_get p.procedures m.procedure ≡ Some q → AreBlocks p t.implementation m q bs → IsFailure (meaning_of p) (has set) t cex → IsReplay p bs set t.implementation m q (tables_in cex.tables.items) (vals_in cex.globals.items) (vals_in cex.frame.items) (map choice_of cex.choices.items) ending → Arm (meaning_of p) (has set) t cex ending
arm law codes p set t cex m q bs ending typed o im pr made failure replay =
    on ending replay (fails_or_leaves law codes p set t cex m q bs ending typed o im pr made failure replay)
  where
    on : (e : Ending) → IsReplay p bs set t.implementation m q (tables_in cex.tables.items) (vals_in cex.globals.items) (vals_in cex.frame.items) (map choice_of cex.choices.items) e → (said_by e ≡ Stops (Failed t.spot)) ⊎ ((o : OutOfRange) × (said_by e ≡ Leaves o)) → Arm (meaning_of p) (has set) t cex e
    on (ends.OutOfRange x) h f = runs_to p t.implementation m q im pr set t.spot t.candidate bs cex (ends.OutOfRange x) (Leaves x) made h refl
    on (ends.Failed x) h f =
        ⊎_elim
        (λ e. runs_to p t.implementation m q im pr set t.spot t.candidate bs cex (ends.Failed x) (Stops (Failed t.spot)) made h e)
        (λ e. absurd (let bad : Stops (Failed (spot_of x)) ≡ Leaves e.0 = e.1 in let worse : ⊥ = cc in worse)) f
    on ends.Ended h f = other_answer Ended t.spot (Stops Ended) refl (λ e. let bad : ⊥ = cc in bad) f
    on ends.Blocked h f = other_answer Blocked t.spot (Stops Blocked) refl (λ e. let bad : ⊥ = cc in bad) f
    on ends.BadChoice h f = other_answer BadChoice t.spot (Stops BadChoice) refl (λ e. let bad : ⊥ = cc in bad) f
    on ends.NoValues h f =
        ⊎_elim (λ e. let bad : ⊥ = cc in bad) (λ e. let bad : Unsaid ≡ Leaves e.0 = e.1 in let worse : ⊥ = cc in worse) f

-- the same of what was prepared and replayed
pub arm_here : ReplayLaw → CodeLaw → (p : r.Program) (set : List Bool) (t : Place) (cex : Counterexample) (w : Prepared) (h : IsPrepared p t.implementation w) (bs : List Block) (ts : List Table) (gs fs : List Value) (cs : List Choice) (ending : Ending) → IsTyped (meaning_of p) → is_over_values (meaning_of p) ≡ true → bs ≡ w.blocks.items → ts ≡ cex.tables.items → gs ≡ cex.globals.items → fs ≡ cex.frame.items → cs ≡ cex.choices.items → IsFailure (meaning_of p) (has set) t cex → ((m : r.Impl) (q : r.Proc) → slice_get p.implementations t.implementation ≡ Some m → slice_get p.procedures m.procedure ≡ Some q → IsReplay p bs set t.implementation m q (tables_in ts) (vals_in gs) (vals_in fs) (map choice_of cs) ending) → Arm (meaning_of p) (has set) t cex ending
arm_here law codes p set t cex w h bs ts gs fs cs ending typed o eb et eg ef ec failure replay =
    let m = h.implementation in
    let q = h.procedure in
    let r0 = replay m q h.impl_there h.proc_there in
    let r1 = subst (λ x. IsReplay p x set t.implementation m q (tables_in ts) (vals_in gs) (vals_in fs) (map choice_of cs) ending) eb r0 in
    let r2 = subst (λ x. IsReplay p w.blocks.items set t.implementation m q (tables_in x) (vals_in gs) (vals_in fs) (map choice_of cs) ending) et r1 in
    let r3 = subst (λ x. IsReplay p w.blocks.items set t.implementation m q (tables_in cex.tables.items) (vals_in x) (vals_in fs) (map choice_of cs) ending) eg r2 in
    let r4 = subst (λ x. IsReplay p w.blocks.items set t.implementation m q (tables_in cex.tables.items) (vals_in cex.globals.items) (vals_in x) (map choice_of cs) ending) ef r3 in
    let r5 = subst (λ x. IsReplay p w.blocks.items set t.implementation m q (tables_in cex.tables.items) (vals_in cex.globals.items) (vals_in cex.frame.items) (map choice_of x) ending) ec r4 in
    arm law codes p set t cex m q w.blocks.items ending typed o h.impl_there h.proc_there h.blocks failure r5
