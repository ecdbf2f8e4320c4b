use Rattle.bg_told.proofs.Verified.{verified_exactly}
use Rattle.bg_told.proofs.laws.verified_is_all_proved.Goals as goal

pub returns : goal.returns
returns c = verified_exactly
