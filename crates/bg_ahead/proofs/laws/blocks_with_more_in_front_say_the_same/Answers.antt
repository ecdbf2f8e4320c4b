use Rattle.bg_ahead.proofs.Saying.{said_ahead}
use Rattle.bg_ahead.proofs.laws.blocks_with_more_in_front_say_the_same.Goals as goal

pub returns : goal.returns
returns c = said_ahead
