use Rattle.bg_opened.proofs.Whole.{scalars, typed, is_resolved}
use Rattle.bg_opened.proofs.laws.opened_programs_are_over_values.Goals as goal

pub returns-clause-scalars : goal.returns-clause-scalars
returns-clause-scalars c = scalars

pub returns-clause-typed : goal.returns-clause-typed
returns-clause-typed c = typed

pub returns-clause-resolved : goal.returns-clause-resolved
returns-clause-resolved c = is_resolved
