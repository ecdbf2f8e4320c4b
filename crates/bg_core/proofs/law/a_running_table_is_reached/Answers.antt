use Rattle.bg_core.proofs.Tabled.{reaching}
use Rattle.bg_core.proofs.law.a_running_table_is_reached.Goals as goal

pub returns : goal.returns
returns c = reaching
