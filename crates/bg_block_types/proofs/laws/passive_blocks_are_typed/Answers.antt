use Rattle.std.proofs.Common.{ℕ, Bool, false, []}
use Rattle.bg_ast.specs.Execution.{Interp, State}
use Rattle.bg_sense.specs.Context.{Turning}
use Rattle.bg_block_types.proofs.Whole.{typed}
use Rattle.bg_block_types.proofs.laws.passive_blocks_are_typed.Goals as goal

no_set : ℕ → Bool
no_set b = false

no_interp : Interp
no_interp = record { constants = []; tables = [] }

no_state : State
no_state = record { globals = []; frame = [] }

pub returns : goal.returns
returns c p k m q t im pr =
    let body = c.typed_programs_have_typed_bodies.ensures.implementations Turning p no_set no_interp k m q no_state t im pr in
    typed p k m q t im pr (c.arrivals_fit.ensures p no_set no_interp k m q no_state body) (c.arrivals_are_typed.ensures p no_set no_interp k m q no_state body)
