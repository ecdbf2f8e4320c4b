use Rattle.bg_sound.proofs.Choosing.{more_choices}
use Rattle.bg_sound.proofs.laws.more_choices_change_nothing.Goals as goal

pub returns : goal.returns
returns c = more_choices
