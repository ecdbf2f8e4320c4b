use Rattle.bg_guess.proofs.Ordering.{ordered}
use Rattle.bg_guess.proofs.laws.guesses_are_in_order.Goals as goal

pub returns : goal.returns
returns c = ordered
