-- What stays the same during an execution of one body, and the steps that it makes.
use Rattle.std.specs.Prelude.{ℕ, zero, suc, Bool, List}
use Rattle.bg_ast.specs.Values.{Val}
use Rattle.bg_ast.specs.Syntax.{Call, Decl, Prog}
use Rattle.bg_ast.specs.Execution.{Interp}
use Rattle.bg_sense.specs.Eval.{Scope, functions_of}
use Rattle.bg_sense.specs.Flow.{World, Going, Over, Next, Flow}

-- whether loops turn, with steps counted, or make one induction step
pub data Loops : Type 0 where
  Turning : Loops
  Cut : Loops

-- what stays the same during an execution of one body
pub record Ctx : Type 0 where
  pub program : Prog
  pub interp : Interp
  pub set : ℕ → Bool
  pub implementation : ℕ
  pub variables : List Decl
  pub before : List Val
  pub loops : Loops

-- what a call does
abbrev pub Calls : Type 0
Calls = Ctx → Call → World → Flow

-- one step, where steps are counted and one is left
abbrev pub spend : ℕ → World → Flow
spend zero w = Over Going
spend (suc n) w = Next (record w { left = n })

-- a step is made, where steps are counted
abbrev pub step : Loops → World → Flow
step Turning w = spend w.left w
step Cut w = Next w

-- what names mean at this moment
abbrev pub scope : Ctx → World → Scope
scope c w =
    record {
      functions = functions_of c.program c.interp;
      constants = c.interp.constants;
      globals = w.globals;
      before = c.before;
      frame = w.frame;
    }

-- what names mean in a callee's specification, where its parameters and results have these values
abbrev pub callee_scope : Ctx → List Val → List Val → World → Scope
callee_scope c before frame w =
    record {
      functions = functions_of c.program c.interp;
      constants = c.interp.constants;
      globals = w.globals;
      before = before;
      frame = frame;
    }
