use Rattle.bg_point.proofs.Nearest.{nearest}
use Rattle.bg_point.proofs.laws.near_values_are_nearest.Goals as goal

pub returns : goal.returns
returns c = nearest
