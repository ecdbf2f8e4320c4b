use Rattle.bg_resolve.proofs.Recursions.{calls-graph}
use Rattle.bg_resolve.proofs.laws.calls_go_to_functions.Goals as goal

pub returns : goal.returns
returns c = calls-graph
