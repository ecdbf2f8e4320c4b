use Rattle.bg_sense.proofs.Small.{empty_safe}
use Rattle.bg_sense.proofs.laws.empty_is_safe.Goals as goal

pub returns : goal.returns
returns c = empty_safe
