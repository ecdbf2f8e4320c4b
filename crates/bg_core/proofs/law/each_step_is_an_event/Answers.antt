use Rattle.bg_core.proofs.Tabled.{table_steps}
use Rattle.bg_core.proofs.law.each_step_is_an_event.Goals as goal

pub returns : goal.returns
returns c = table_steps
