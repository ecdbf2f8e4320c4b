use Rattle.bg_sense.proofs.Sound.{safe_from_cut}
use Rattle.bg_sense.proofs.laws.no_induction_failure_is_safe.Goals as goal

pub returns : goal.returns
returns c = safe_from_cut
