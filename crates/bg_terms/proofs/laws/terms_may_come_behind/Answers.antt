use Rattle.bg_terms.proofs.Stays.{flat_stays, flats_stay, typed_stays, head_stays}
use Rattle.bg_terms.proofs.laws.terms_may_come_behind.Goals as goal

pub returns-clause-flat : goal.returns-clause-flat
returns-clause-flat c = flat_stays

pub returns-clause-lists : goal.returns-clause-lists
returns-clause-lists c = flats_stay

pub returns-clause-typed : goal.returns-clause-typed
returns-clause-typed c = typed_stays

pub returns-clause-term : goal.returns-clause-term
returns-clause-term c = head_stays
