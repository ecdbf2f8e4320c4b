-- The replay of a counterexample without its last choice.
use Rattle.std.proofs.Common.{◌≡◌, ℕ, Bool, List, [], ◌∷◌, ◌++◌, map, Some, refl, sym, ap, ◌∙◌, inl, inr}
use Rattle.std.specs.Prelude.{◌⊎◌, slice_get, option_map}
use Rattle.std.proofs.lemmas.List.{map-append}
use Rattle.std.proofs.lemmas.Option.{slice_get-map}
use Rattle.bg_ast.specs.Values.{Val, Table, Ty}
use Rattle.bg_ast.specs.Execution as run
use Rattle.bg_ast.specs.Syntax as s
use Rattle.bg_ast.specs.Resolved as r
use Rattle.bg_ast.specs.Meaning.{meaning_of, named_of, impl_of, proc_of}
use Rattle.bg_ast.specs.Execution.{Place}
use Rattle.bg_sense.specs.Flow.{BadChoice, Failed}
use Rattle.bg_sense.specs.Variables.{procedure_of}
use Rattle.bg_sense.specs.Types.{types_of}
use Rattle.bg_flow.specs.Core.{frame_decls}
use Rattle.bg_flow.specs.Blocks as f
use Rattle.bg_block_types.specs.Typed.{blocks_in}
use Rattle.bg_cert.specs.Walks.{has}
use Rattle.bg_blocks.specs.Views.{block_of}
use Rattle.bg_blocks.specs.Whole.{AreBlocks}
use Rattle.bg_blocks.specs.declared.block.Block.{Block}
use Rattle.bg_scalar.specs.declared.choice.Choice.{Choice}
use Rattle.bg_scalar.specs.Choices.{choice_of}
use Rattle.bg_scalar.specs.Views.{tables_in, vals_in}
use Rattle.bg_replay.specs.Moments.{Around}
use Rattle.bg_replay.specs.Said.{Said, Stops}
use Rattle.bg_replay.specs.Ways.{runs}
use Rattle.bg_replay.specs.Views.{said_by}
use Rattle.bg_replay.specs.Endings.{IsReplay, moment_in}
use Rattle.bg_replay.specs.declared.ending.Ending.{Ending}
use Rattle.bg_replay.proofs.More.{same_runs}
use Rattle.bg_model.specs.declared.failure.Counterexample.{Counterexample}
use Rattle.bg_check.specs.Replays.{run_in, RunsTo}
use Rattle.bg_check.proofs.Refutes.{set_same}

module _ (p : r.Program) (k : ℕ) (m : r.Impl) (q : r.Proc) (im : slice_get p.implementations k ≡ Some m) (pr : slice_get p.procedures m.procedure ≡ Some q) where
  abbrev named : ℕ → Ty
  named = named_of p.types

  abbrev P : s.Prog
  P = meaning_of p

  abbrev M : s.Impl
  M = impl_of named m

  abbrev Q : s.Proc
  Q = proc_of named q

  impl_there : slice_get P.implementations k ≡ Some M
  impl_there = slice_get-map (impl_of named) p.implementations k ∙ ap (option_map (impl_of named)) im

  proc_there : slice_get P.procedures m.procedure ≡ Some Q
  proc_there = slice_get-map (proc_of named) p.procedures m.procedure ∙ ap (option_map (proc_of named)) pr

  abbrev around : List Bool → List Table → List Val → Around
  around set tables gs = record { set = has set; tables = tables; before = gs; globals = types_of P.globals; frame = types_of (frame_decls M Q) }

  -- a replay's run
  ran : (set : List Bool) (bs : List Block) (tables : List Table) (gs fs : List Val) (cs : List run.Choice) (ending : Ending) → AreBlocks p k m q bs → IsReplay p bs set k m q tables gs fs cs ending → said_by ending ≡ runs (around set tables gs) 0 (blocks_in P k M Q) (moment_in gs fs cs)
  ran set bs tables gs fs cs ending made replay =
      replay.ran ∙ (ap (λ (u : ℕ → Bool). run_with u (map (block_of p) bs)) (set_same set) ∙ ap (run_with (has set)) made)
    where
      run_with : (ℕ → Bool) → List f.Block → Said
      run_with u l = runs (record { set = u; tables = tables; before = gs; globals = types_of P.globals; frame = types_of (frame_decls M Q) }) 0 l (moment_in gs fs cs)

  -- the run of a counterexample
  ran_to : (set : List Bool) (t : Place) (cex : Counterexample) (said : Said) → t.implementation ≡ k → RunsTo P (has set) t cex said → runs (around set (tables_in cex.tables.items) (vals_in cex.globals.items)) 0 (blocks_in P k M Q) (moment_in (vals_in cex.globals.items) (vals_in cex.frame.items) (map choice_of cex.choices.items)) ≡ said
  ran_to set t cex said e h =
      let there : slice_get P.implementations k ≡ Some h.implementation = ap (slice_get P.implementations) (sym e) ∙ h.is_there in
      let a : Some h.implementation ≡ Some M = sym there ∙ impl_there in
      let im_is : h.implementation ≡ M = cc in
      let b : Some h.procedure ≡ Some Q = sym h.is_its ∙ (ap (λ x. procedure_of P x.procedure) im_is ∙ proc_there) in
      let pr_is : h.procedure ≡ Q = cc in
      ap (λ x. run_in P (has set) k x Q cex) (sym im_is)
      ∙ (ap (λ x. run_in P (has set) k h.implementation x cex) (sym pr_is)
      ∙ (ap (λ x. run_in P (has set) x h.implementation h.procedure cex) (sym e) ∙ h.says))

  either : (set : List Bool) (t : Place) (bs : List Block) (cex : Counterexample) (front : List Choice) (last : Choice) (ending : Ending) → t.implementation ≡ k → AreBlocks p k m q bs → cex.choices.items ≡ front ++ (last ∷ []) → RunsTo P (has set) t cex (Stops (Failed t.spot)) → IsReplay p bs set k m q (tables_in cex.tables.items) (vals_in cex.globals.items) (vals_in cex.frame.items) (map choice_of front) ending → (said_by ending ≡ Stops BadChoice) ⊎ (said_by ending ≡ Stops (Failed t.spot))
  either set t bs cex front last ending e made cut h replay =
      by (same_runs (choice_of last ∷ []) (around set (tables_in cex.tables.items) (vals_in cex.globals.items)) 0 (blocks_in P k M Q) (moment_in (vals_in cex.globals.items) (vals_in cex.frame.items) (map choice_of front)))
    where
      short : said_by ending ≡ runs (around set (tables_in cex.tables.items) (vals_in cex.globals.items)) 0 (blocks_in P k M Q) (moment_in (vals_in cex.globals.items) (vals_in cex.frame.items) (map choice_of front))
      short = ran set bs (tables_in cex.tables.items) (vals_in cex.globals.items) (vals_in cex.frame.items) (map choice_of front) ending made replay

      by : (runs (around set (tables_in cex.tables.items) (vals_in cex.globals.items)) 0 (blocks_in P k M Q) (moment_in (vals_in cex.globals.items) (vals_in cex.frame.items) (map choice_of front)) ≡ Stops BadChoice) ⊎ (runs (around set (tables_in cex.tables.items) (vals_in cex.globals.items)) 0 (blocks_in P k M Q) (moment_in (vals_in cex.globals.items) (vals_in cex.frame.items) (map choice_of front ++ (choice_of last ∷ []))) ≡ runs (around set (tables_in cex.tables.items) (vals_in cex.globals.items)) 0 (blocks_in P k M Q) (moment_in (vals_in cex.globals.items) (vals_in cex.frame.items) (map choice_of front))) → (said_by ending ≡ Stops BadChoice) ⊎ (said_by ending ≡ Stops (Failed t.spot))
      by (inl b) = inl (short ∙ b)
      by (inr b) =
          inr (short ∙ (sym b ∙ (ap (λ (cs : List run.Choice). runs (around set (tables_in cex.tables.items) (vals_in cex.globals.items)) 0 (blocks_in P k M Q) (moment_in (vals_in cex.globals.items) (vals_in cex.frame.items) cs)) (sym (ap (map choice_of) cut ∙ map-append choice_of front (last ∷ []))) ∙ ran_to set t cex (Stops (Failed t.spot)) e h)))

pub shorter : (p : r.Program) (set : List Bool) (t : Place) (cex : Counterexample) (m : r.Impl) (q : r.Proc) (bs : List Block) (front : List Choice) (last : Choice) (ending : Ending) → slice_get p.implementations t.implementation ≡ Some m → slice_get p.procedures m.procedure ≡ Some q → AreBlocks p t.implementation m q bs → cex.choices.items ≡ front ++ (last ∷ []) → RunsTo (meaning_of p) (has set) t cex (Stops (Failed t.spot)) → IsReplay p bs set t.implementation m q (tables_in cex.tables.items) (vals_in cex.globals.items) (vals_in cex.frame.items) (map choice_of front) ending → (said_by ending ≡ Stops BadChoice) ⊎ (said_by ending ≡ Stops (Failed t.spot))
shorter p set t cex m q bs front last ending im pr made cut h replay =
    either p t.implementation m q im pr set t bs cex front last ending refl made cut h replay
