use Rattle.bg_ahead.proofs.Exactly.{exact_ahead}
use Rattle.bg_ahead.proofs.laws.blocks_with_more_in_front_are_exact.Goals as goal

pub returns : goal.returns
returns c = exact_ahead
