use Rattle.bg_sound.proofs.Zero.{zero_is_safe}
use Rattle.bg_sound.proofs.laws.status_zero_is_safe.Goals as goal

pub returns : goal.returns
returns c = zero_is_safe
