use Rattle.bg_sense.proofs.Small.{no_step}
use Rattle.bg_sense.proofs.laws.no_step_is_going.Goals as goal

pub returns : goal.returns
returns c = no_step
