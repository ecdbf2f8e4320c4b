-- What an execution does: the source run, in which loops turn, and the induction run, in which each loop makes one step.
use Rattle.std.specs.Prelude.{ℕ, Bool, List, Option, Some, None, slice_get, ◌++◌}
use Rattle.bg_ast.specs.Syntax.{Proc, Impl, Prog}
use Rattle.bg_ast.specs.Execution.{Interp, State, Choice, AtReturn}
pub use Rattle.bg_sense.specs.Flow.{World, Answer, Going, Ended, Blocked, Failed, BadChoice, Point, ToLabel, Behind, ToEnd, Flow, Next, Jumps, Over, and_then, point_eq, land, land_all, ended}
pub use Rattle.bg_sense.specs.Context.{Loops, Turning, Cut, Ctx, Calls, spend, step, scope, callee_scope}
pub use Rattle.bg_sense.specs.Clauses.{is_kept, ensure, suppose, is_checked, check, check_all, suppose_that, suppose_all, is_free_kept, is_there, says_of}
pub use Rattle.bg_sense.specs.Variables.{put, put_all, type_in, wheres_in, decl_in, decl_of, wheres_of, wheres_at, var_eq, is_among, procedure_of, globals_of, modified, modified_by, may_change, count_from, variables_in, variables_of, targets}
pub use Rattle.bg_sense.specs.Choices.{choose_from, choose, branch_from, branch, forget_all, choose_all, decide}
pub use Rattle.bg_sense.specs.Loop.{at_head, turns, end, induct, loop}
pub use Rattle.bg_sense.specs.Statements.{label_at, jump, go}
pub use Rattle.bg_sense.specs.Calls.{call_of, by_specification}

-- an execution begins: what the declarations and the preconditions say is assumed
abbrev pub begin : Ctx → Proc → World → Flow
begin c q w =
    and_then
    (step c.loops w)
    (suppose_all c (scope c) (wheres_of (c.program.globals ++ c.variables) ++ says_of (is_there c.set) q.requires_))

-- an execution of a body comes to its end, however it got there: the postconditions are checked
abbrev pub close : Ctx → Proc → Flow → Answer
close c q f = ended (and_then (land_all f) (check_all c (AtReturn c.implementation) (scope c) q.ensures_))

-- an execution of a body from its beginning to its end
abbrev pub run_body : Calls → Ctx → Impl → Proc → World → Answer
run_body calls c m q w = close c q (go calls c m.body (begin c q w))

-- what stays the same during an execution of this implementation, which begins in this state
abbrev pub context : Loops → Prog → (ℕ → Bool) → Interp → ℕ → Impl → Proc → State → Ctx
context loops p set i k m q s =
    record {
      program = p;
      interp = i;
      set = set;
      implementation = k;
      variables = q.params ++ (q.results ++ m.locals);
      before = s.globals;
      loops = loops;
    }

-- the first moment of an execution
abbrev pub start : State → List Choice → ℕ → World
start s choices n = record { globals = s.globals; frame = s.frame; choices = choices; left = n }

-- an execution of an implementation of this procedure, if it is there
abbrev pub run_of : Option Proc → Loops → Prog → (ℕ → Bool) → Interp → ℕ → Impl → State → List Choice → ℕ → Answer
run_of None loops p set i k m s choices n = Ended
run_of (Some q) loops p set i k m s choices n =
    run_body by_specification (context loops p set i k m q s) m q (start s choices n)

-- an execution of this implementation, if it is there
abbrev pub run : Option Impl → Loops → Prog → (ℕ → Bool) → Interp → ℕ → State → List Choice → ℕ → Answer
run None loops p set i k s choices n = Ended
run (Some m) loops p set i k s choices n = run_of (procedure_of p m.procedure) loops p set i k m s choices n

-- at most n steps of the source: loops turn, and calls mean their specifications
abbrev pub source_run : Prog → (ℕ → Bool) → Interp → ℕ → State → List Choice → ℕ → Answer
source_run p set i k s choices n = run (slice_get p.implementations k) Turning p set i k s choices n

-- the same with one induction step for each loop, so that it comes to an end by itself
abbrev pub induction_run : Prog → (ℕ → Bool) → Interp → ℕ → State → List Choice → Answer
induction_run p set i k s choices = run (slice_get p.implementations k) Cut p set i k s choices 0
