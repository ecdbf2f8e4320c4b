-- Where blocks lead, and their runs.
use Rattle.std.specs.Prelude.{ℕ, zero, suc, true, false, List, [], ◌∷◌, Option, Some, None, slice_get}
use Rattle.bg_base.specs.declared.exact.OutOfRange.{OutOfRange}
use Rattle.bg_ast.specs.Values.{Val, Truth}
use Rattle.bg_ast.specs.Syntax.{Guard, Star, Test}
use Rattle.bg_ast.specs.Execution.{Choice, Branch, Chosen}
use Rattle.bg_sense.specs.Flow.{Answer, Ended, BadChoice}
use Rattle.bg_flow.specs.Core.{Cmd}
use Rattle.bg_flow.specs.Blocks.{Exit, Leap, Either, Block}
use Rattle.bg_scalar.specs.Worths as worths
use Rattle.bg_scalar.specs.Worths.{WorthOf, worth}
use Rattle.bg_replay.specs.Moments.{Moment, Around, Out, Goes, Over, Outside, Unknown, and_so, seen_at}
use Rattle.bg_replay.specs.Said.{Said, Stops, Leaves, Unsaid}
use Rattle.bg_replay.specs.Acts.{moved, acts}

-- a block is entered at a moment, or the run is over, or an operation leaves the range, or something has another type than it should
pub data Way : Type 0 where
  On : ℕ → Moment → Way
  Off : Answer → Way
  Beyond : OutOfRange → Way
  Nowhere : Way

-- the branch that is chosen next
abbrev pub branched : List Choice → Option ℕ
branched [] = None
branched (Branch k ∷ cs) = Some k
branched (Chosen x ∷ cs) = None

abbrev pub go_to : Option ℕ → Moment → Way
go_to None m = Off BadChoice
go_to (Some k) m = On k m

abbrev pub branch_to : Option ℕ → List ℕ → Moment → Way
branch_to None ks m = Off BadChoice
branch_to (Some j) ks m = go_to (slice_get ks j) m

abbrev pub side_by : Val → ℕ → ℕ → Moment → Way
side_by (Truth true) on off m = On on m
side_by (Truth false) on off m = On off m
side_by _ on off m = Nowhere

abbrev pub test_to : WorthOf → ℕ → ℕ → Moment → Way
test_to (worths.Is x) on off m = side_by x on off m
test_to (worths.Leaves o) on off m = Beyond o
test_to worths.NoValue on off m = Nowhere

abbrev pub decided : Around → Guard → ℕ → ℕ → Moment → Way
decided a Star on off m = branch_to (branched m.choices) (on ∷ off ∷ []) (moved m)
decided a (Test e) on off m = test_to (worth e (seen_at a m)) on off m

abbrev pub leaves : Around → Exit → Moment → Way
leaves a (Leap []) m = On 0 m
leaves a (Leap (k ∷ [])) m = On k m
leaves a (Leap (k ∷ l ∷ ks)) m = branch_to (branched m.choices) (k ∷ l ∷ ks) (moved m)
leaves a (Either g on off) m = decided a g on off m

abbrev pub acts_each : Around → List Cmd → Moment → Out
acts_each a [] m = Goes m
acts_each a (k ∷ ks) m = and_so (acts a k m) (acts_each a ks)

abbrev pub enters : Way → (ℕ → Moment → Said) → Said
enters (On k m) go_on = go_on k m
enters (Off x) go_on = Stops x
enters (Beyond o) go_on = Leaves o
enters Nowhere go_on = Unsaid

abbrev pub ran : Out → (Moment → Said) → Said
ran (Goes m) go_on = go_on m
ran (Over x) go_on = Stops x
ran (Outside o) go_on = Leaves o
ran Unknown go_on = Unsaid

-- a run from the block that is so far ahead
abbrev pub runs : Around → ℕ → List Block → Moment → Said
runs a k [] m = Stops Ended
runs a zero (b ∷ bs) m = ran (acts_each a b.cmds m) (λ n. enters (leaves a b.exit n) (λ k u. runs a k bs u))
runs a (suc k) (b ∷ bs) m = runs a k bs m
