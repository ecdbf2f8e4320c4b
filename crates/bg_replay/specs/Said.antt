-- What clauses say.
use Rattle.std.specs.Prelude.{ℕ, Bool, true, false, if◌then◌else◌, List, [], ◌∷◌}
use Rattle.bg_base.specs.declared.exact.OutOfRange.{OutOfRange}
use Rattle.bg_sense.specs.Flow.{Answer, Blocked, Failed}
use Rattle.bg_sense.specs.Clauses.{is_kept}
use Rattle.bg_flow.specs.Core.{Demand, Saying}
use Rattle.bg_ast.specs.Values.{Val, Truth}
use Rattle.bg_scalar.specs.Worths as worths
use Rattle.bg_scalar.specs.Worths.{Seen, WorthOf, worth}
use Rattle.bg_replay.specs.Moments.{Moment, Out, Goes, Over, Outside, Unknown}

-- the run goes on, or it is over, or an operation leaves the range, or something has another type than it should
pub data Said : Type 0 where
  Fine : Said
  Stops : Answer → Said
  Leaves : OutOfRange → Said
  Unsaid : Said

abbrev pub then_said : Said → Said → Said
then_said Fine x = x
then_said (Stops a) x = Stops a
then_said (Leaves o) x = Leaves o
then_said Unsaid x = Unsaid

-- at this moment
abbrev pub on_said : Said → Moment → Out
on_said Fine m = Goes m
on_said (Stops a) m = Over a
on_said (Leaves o) m = Outside o
on_said Unsaid m = Unknown

-- what is true is fine
abbrev pub true_or : Answer → Val → Said
true_or a (Truth true) = Fine
true_or a (Truth false) = Stops a
true_or a _ = Unsaid

abbrev pub or_stops : Answer → WorthOf → Said
or_stops a (worths.Is x) = true_or a x
or_stops a (worths.Leaves o) = Leaves o
or_stops a worths.NoValue = Unsaid

abbrev pub check_one : (ℕ → Bool) → Seen → Demand → Said
check_one set s d = if is_kept set d.candidate then or_stops (Failed d.spot) (worth d.says s) else Fine

abbrev pub checks : (ℕ → Bool) → Seen → List Demand → Said
checks set s [] = Fine
checks set s (d ∷ ds) = then_said (check_one set s d) (checks set s ds)

abbrev pub suppose_one : (ℕ → Bool) → Seen → Saying → Said
suppose_one set s d = if is_kept set d.candidate then or_stops Blocked (worth d.says s) else Fine

abbrev pub supposes : (ℕ → Bool) → Seen → List Saying → Said
supposes set s [] = Fine
supposes set s (d ∷ ds) = then_said (suppose_one set s d) (supposes set s ds)
