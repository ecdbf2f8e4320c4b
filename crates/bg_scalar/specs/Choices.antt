-- Choices and states.
use Rattle.std.specs.Prelude.{List}
use Rattle.bg_ast.specs.Values.{Val}
use Rattle.bg_ast.specs.Execution as e
use Rattle.bg_ast.specs.Execution.{State}
use Rattle.bg_scalar.specs.Values.{value_of}
use Rattle.bg_scalar.specs.declared.choice.Choice.{Choice}
use Rattle.bg_scalar.specs.declared.choice.Choice.TheVariants as choice

abbrev pub choice_of : Choice → e.Choice
choice_of (choice.Branch k) = e.Branch k
choice_of (choice.Chosen x) = e.Chosen (value_of x)

-- the state in which variables have these values
abbrev pub state_of : List Val → List Val → State
state_of globals frame = record { globals = globals; frame = frame }
