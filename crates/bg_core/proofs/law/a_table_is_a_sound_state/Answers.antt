use Rattle.bg_core.proofs.Tabled.{sound_table}
use Rattle.bg_core.proofs.law.a_table_is_a_sound_state.Goals as goal

pub returns : goal.returns
returns c = sound_table
