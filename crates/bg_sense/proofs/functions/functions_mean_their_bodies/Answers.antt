use Rattle.bg_sense.proofs.Unfolding.{unfolds, looked_up}
use Rattle.bg_sense.proofs.functions.functions_mean_their_bodies.Goals as goal

pub returns-clause-body : goal.returns-clause-body
returns-clause-body c p i f fn e args none at says = unfolds p i none f fn e args at says

pub returns-clause-table : goal.returns-clause-table
returns-clause-table c = looked_up
