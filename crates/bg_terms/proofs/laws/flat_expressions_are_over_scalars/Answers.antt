use Rattle.bg_terms.proofs.Linear.{over_scalars, no_old, flat_linear}
use Rattle.bg_terms.proofs.laws.flat_expressions_are_over_scalars.Goals as goal

pub returns-clause-typed : goal.returns-clause-typed
returns-clause-typed c = over_scalars

pub returns-clause-no_old : goal.returns-clause-no_old
returns-clause-no_old c = no_old

pub returns-clause-linear : goal.returns-clause-linear
returns-clause-linear c = flat_linear
