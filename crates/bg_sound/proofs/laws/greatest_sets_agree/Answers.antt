use Rattle.bg_sound.proofs.Agree.{sets_agree}
use Rattle.bg_sound.proofs.laws.greatest_sets_agree.Goals as goal

pub returns : goal.returns
returns c = sets_agree
