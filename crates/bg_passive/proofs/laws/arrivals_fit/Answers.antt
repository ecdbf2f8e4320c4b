use Rattle.bg_passive.proofs.Arriving.{arrived_fit}
use Rattle.bg_passive.proofs.laws.arrivals_fit.Goals as goal

pub returns : goal.returns
returns c = arrived_fit
