-- Counterexamples: entry values and choices by which an induction run fails.
use Rattle.std.specs.Prelude.{◌≡◌, ℕ, Bool, true, false, not, List, Option, Some, None, map, length, slice_get}
use Rattle.bg_ast.specs.Values.{Val, Ty, Table}
use Rattle.bg_ast.specs.Syntax.{Prog, Impl, Proc}
use Rattle.bg_ast.specs.Execution.{Interp, State, Spot}
use Rattle.bg_sense.specs.Flow.{Failed}
use Rattle.bg_sense.specs.Variables.{procedure_of}
use Rattle.bg_sense.specs.Run.{induction_run}
use Rattle.bg_flow.specs.Core.{frame_decls, routine_of}
use Rattle.bg_flow.specs.Blocks.{Block, blocks_of}
use Rattle.bg_passive.specs.Incarnations.{Arrival, passives, MakesPassive, ValuesFrom, passive_scope}
use Rattle.bg_passive.specs.Equations.{is_well}
use Rattle.bg_incarnate.specs.Walked.{next_in}
use Rattle.bg_formed.specs.Formed.{FormBlock}
use Rattle.bg_formed.specs.Wells.{form_equations}
use Rattle.bg_formed.specs.Said.{SaidBlocks}
use Rattle.bg_formed.specs.Used.{refused}
use Rattle.bg_scalar.specs.Views.{tables_in, vals_in}
use Rattle.bg_scalar.specs.Choices.{choice_of, state_of}
use Rattle.bg_kinds.specs.Views.{ref_in}
use Rattle.bg_sound.specs.Chosen.{choices_are_of}
use Rattle.bg_model.specs.declared.failure.Counterexample.{Counterexample}
use Rattle.bg_model.specs.Over.{walk_over}
use Rattle.bg_model.specs.Turns.{turns, taken}

-- whether the equations of a check deny the entry block under a set and truth values of the atoms
abbrev pub is_denied : (ℕ → Bool) → Spot → (ℕ → Bool) → List FormBlock → Bool
is_denied set t w forms = not (is_well (slice_get (form_equations set t w forms) 0))

-- an implementation with these blocks of so many variables of the frame, made passive with these first incarnations, and a state
-- with which these values of the incarnations begin
pub record SetUp (p : Prog) (bs : List Block) (frame : ℕ) (ns : List ℕ) (vs : List Val) (k : ℕ) (m : Impl) (q : Proc) (s : State) (others : List Ty) (arrivals : List Arrival) : Type 0 where
  pub implementation : slice_get p.implementations k ≡ Some m
  pub procedure : procedure_of p m.procedure ≡ Some q
  pub blocks : bs ≡ blocks_of (routine_of p k m q)
  pub frame_size : length (frame_decls m q) ≡ frame
  pub firsts : ns ≡ map next_in arrivals
  pub suited : MakesPassive p (frame_decls m q) others arrivals bs
  pub values : ValuesFrom p (frame_decls m q) others s vs

-- functions have these tables; in each set-up the state is that of the counterexample; its choices are the values along the lowest edges
-- from which some walk fails; and by them the induction run fails at the check, where the blocks of forms say what the passive blocks
-- say, and no operation that counts for the check leaves the range
pub record IsCounterexample (p : Prog) (bs : List Block) (frame : ℕ) (ns : List ℕ) (forms : List FormBlock) (set : ℕ → Bool) (t : Spot) (w : ℕ → Bool) (vs : List Val) (ts : List Table) (cex : Counterexample) : Type 0 where
  pub tables : tables_in cex.tables.items ≡ ts
  pub starts : (k : ℕ) (m : Impl) (q : Proc) (s : State) (others : List Ty) (arrivals : List Arrival) → SetUp p bs frame ns vs k m q s others arrivals → s ≡ state_of (vals_in cex.globals.items) (vals_in cex.frame.items)
  pub choices : map choice_of cex.choices.items ≡ taken (walk_over set t w) vs bs forms ns (turns (walk_over set t w) forms) 0
  pub fails : (i : Interp) (k : ℕ) (m : Impl) (q : Proc) (s : State) (others : List Ty) (arrivals : List Arrival) → SetUp p bs frame ns vs k m q s others arrivals → SaidBlocks w (passive_scope p i vs) (passives arrivals bs) forms → refused t forms ≡ None → induction_run p set i k s (map choice_of cex.choices.items) ≡ Failed t

-- its choices are of the types that stand beside them
abbrev pub AreTyped : Option Counterexample → Type 0
AreTyped None = Unit {0}
AreTyped (Some cex) = choices_are_of (map ref_in cex.kinds.items) (map choice_of cex.choices.items) ≡ true

-- a counterexample is given exactly where the equations deny the entry block
abbrev pub IsTold : Bool → Option Counterexample → (Counterexample → Type 0) → Type 0
IsTold denied None IsRight = denied ≡ false
IsTold denied (Some cex) IsRight = (denied ≡ true) × IsRight cex
