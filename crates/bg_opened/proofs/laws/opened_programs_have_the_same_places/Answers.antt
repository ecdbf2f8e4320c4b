use Rattle.bg_opened.proofs.Places.{places_alike}
use Rattle.bg_opened.proofs.laws.opened_programs_have_the_same_places.Goals as goal

pub returns : goal.returns
returns c = places_alike
