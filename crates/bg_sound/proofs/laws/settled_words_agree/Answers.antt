use Rattle.bg_sound.proofs.Agree.{words_agree}
use Rattle.bg_sound.proofs.laws.settled_words_agree.Goals as goal

pub returns : goal.returns
returns c = words_agree
