use Rattle.bg_rows.proofs.Normal.{gone, still}
use Rattle.bg_rows.proofs.laws.eliminated_is_gone.Goals as goal

pub returns : goal.returns
returns c = record { gone = gone; still = still }
