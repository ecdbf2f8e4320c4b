use Rattle.bg_guess.proofs.TypedWhole.{typed}
use Rattle.bg_guess.proofs.laws.guesses_are_typed.Goals as goal

pub returns : goal.returns
returns c = typed
