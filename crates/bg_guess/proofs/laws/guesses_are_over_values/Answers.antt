use Rattle.bg_guess.proofs.Passing.{over_values}
use Rattle.bg_guess.proofs.laws.guesses_are_over_values.Goals as goal

pub returns : goal.returns
returns c = over_values
