-- What is picked, as choices and their types.
use Rattle.std.specs.Prelude.{ℕ, List, Option, Some, None, slice_get, unwrap_or}
use Rattle.bg_ast.specs.Values.{Val, Ty, IntTy}
use Rattle.bg_ast.specs.Execution as e
use Rattle.bg_sense.specs.Eval.{value_at}
use Rattle.bg_model.specs.declared.pick.Pick.{Pick}
use Rattle.bg_model.specs.declared.pick.Pick.TheVariants.{Branch, Incarnation}

-- where incarnations have these values
abbrev pub choice_by : List Val → Pick → e.Choice
choice_by vs (Branch k) = e.Branch k
choice_by vs (Incarnation n) = e.Chosen (value_at vs n)

-- where they have these types; one that isn't there has the value 0, and the type of it
abbrev pub type_by : List Ty → Pick → Ty
type_by ts (Branch k) = IntTy
type_by ts (Incarnation n) = unwrap_or (slice_get ts n) IntTy
