use Rattle.bg_passive.proofs.Arriving.{arrived_typed}
use Rattle.bg_passive.proofs.laws.arrivals_are_typed.Goals as goal

pub returns : goal.returns
returns c = arrived_typed
