-- The run of a counterexample.
use Rattle.std.specs.Prelude.{◌≡◌, ℕ, Bool, Some, map, slice_get}
use Rattle.bg_ast.specs.Syntax.{Proc, Impl, Prog}
use Rattle.bg_ast.specs.Execution.{Place}
use Rattle.bg_sense.specs.Types.{types_of}
use Rattle.bg_sense.specs.Variables.{procedure_of}
use Rattle.bg_flow.specs.Core.{frame_decls}
use Rattle.bg_block_types.specs.Typed.{blocks_in}
use Rattle.bg_scalar.specs.Choices.{choice_of}
use Rattle.bg_scalar.specs.Views.{tables_in, vals_in}
use Rattle.bg_replay.specs.Said.{Said}
use Rattle.bg_replay.specs.Ways.{runs}
use Rattle.bg_replay.specs.Endings.{moment_in}
use Rattle.bg_model.specs.declared.failure.Counterexample.{Counterexample}

-- what the run of the implementation with this number says, under these tables, from these values, with these choices
abbrev pub run_in : Prog → (ℕ → Bool) → ℕ → Impl → Proc → Counterexample → Said
run_in p set k m q cex =
    runs
    (record {
      set = set;
      tables = tables_in cex.tables.items;
      before = vals_in cex.globals.items;
      globals = types_of p.globals;
      frame = types_of (frame_decls m q);
    })
    0 (blocks_in p k m q) (moment_in (vals_in cex.globals.items) (vals_in cex.frame.items) (map choice_of cex.choices.items))

-- the counterexample of a place runs so
pub record RunsTo (p : Prog) (set : ℕ → Bool) (t : Place) (cex : Counterexample) (said : Said) : Type 0 where
  pub implementation : Impl
  pub procedure : Proc
  pub is_there : slice_get p.implementations t.implementation ≡ Some implementation
  pub is_its : procedure_of p implementation.procedure ≡ Some procedure
  pub says : run_in p set t.implementation implementation procedure cex ≡ said
