use Rattle.bg_check.proofs.Trimming.{shorter}
use Rattle.bg_check.proofs.laws.shorter_replays_lack_a_choice_or_fail.Goals as goal

pub returns : goal.returns
returns c = shorter
