use Rattle.bg_rows.proofs.Normal.{combined_stays, tightened_stays, denied_stays}
use Rattle.bg_rows.proofs.laws.rows_stay_normal.Goals as goal

pub returns : goal.returns
returns c = record { combined = combined_stays; tightened = tightened_stays; denied = denied_stays }
