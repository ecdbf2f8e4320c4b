use Rattle.bg_sense.proofs.Spots.{spots_differ, one_candidate}
use Rattle.bg_sense.proofs.resolved.places_have_spots_of_their_own.Goals as goal

pub returns-clause-place : goal.returns-clause-place
returns-clause-place c = spots_differ

pub returns-clause-candidate : goal.returns-clause-candidate
returns-clause-candidate c p t u h i j e = one_candidate p h u t j i e
