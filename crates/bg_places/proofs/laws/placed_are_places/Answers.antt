use Rattle.bg_places.proofs.Meant.{placed_meant}
use Rattle.bg_places.proofs.laws.placed_are_places.Goals as goal

pub returns : goal.returns
returns c = placed_meant
