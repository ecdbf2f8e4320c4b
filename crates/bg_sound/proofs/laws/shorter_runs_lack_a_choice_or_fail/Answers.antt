use Rattle.bg_sound.proofs.Shorter.{shorter}
use Rattle.bg_sound.proofs.laws.shorter_runs_lack_a_choice_or_fail.Goals as goal

pub returns : goal.returns
returns c = shorter
