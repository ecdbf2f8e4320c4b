use Rattle.bg_sense.proofs.Longer.{stays}
use Rattle.bg_sense.proofs.laws.what_is_over_stays.Goals as goal

pub returns : goal.returns
returns c = stays
