-- Moments of a run, and how its parts leave off.
use Rattle.std.specs.Prelude.{ℕ, Bool, List}
use Rattle.bg_base.specs.declared.exact.OutOfRange.{OutOfRange}
use Rattle.bg_ast.specs.Values.{Ty, Val, Table}
use Rattle.bg_ast.specs.Execution.{Choice}
use Rattle.bg_sense.specs.Flow.{World, Answer}
use Rattle.bg_scalar.specs.Worths.{Seen}

-- the values of the variables, and the choices that are left
pub record Moment : Type 0 where
  pub globals : List Val
  pub frame : List Val
  pub choices : List Choice

-- what stays the same during a run: the candidates that are there, the tables of functions, the globals at entry, and the types of
-- globals and of variables of the frame
pub record Around : Type 0 where
  pub set : ℕ → Bool
  pub tables : List Table
  pub before : List Val
  pub globals : List Ty
  pub frame : List Ty

-- how a part of a run leaves off: it goes on, it is over, it met an operation that leaves the range, or something of another type than it should be
pub data Out : Type 0 where
  Goes : Moment → Out
  Over : Answer → Out
  Outside : OutOfRange → Out
  Unknown : Out

abbrev pub and_so : Out → (Moment → Out) → Out
and_so (Goes m) go_on = go_on m
and_so (Over a) go_on = Over a
and_so (Outside o) go_on = Outside o
and_so Unknown go_on = Unknown

-- a moment of an execution
abbrev pub world_of : Moment → World
world_of m =
    record { globals = m.globals; frame = m.frame; choices = m.choices; left = 0 }

-- what is seen at this moment
abbrev pub seen_at : Around → Moment → Seen
seen_at a m = record { tables = a.tables; globals = m.globals; before = a.before; frame = m.frame }
