use Rattle.bg_flow.proofs.CoreRuns.{routines_same}
use Rattle.bg_flow.proofs.calls.calls_may_be_removed.Goals as goal

pub returns : goal.returns
returns c = routines_same
