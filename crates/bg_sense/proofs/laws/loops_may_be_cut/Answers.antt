use Rattle.bg_sense.proofs.Sound.{cut_sound}
use Rattle.bg_sense.proofs.laws.loops_may_be_cut.Goals as goal

pub returns : goal.returns
returns c = cut_sound
