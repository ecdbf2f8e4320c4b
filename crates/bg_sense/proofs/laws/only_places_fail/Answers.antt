use Rattle.bg_sense.proofs.OnlyPlaces.{induction_fails_at_places}
use Rattle.bg_sense.proofs.laws.only_places_fail.Goals as goal

pub returns : goal.returns
returns c = induction_fails_at_places
