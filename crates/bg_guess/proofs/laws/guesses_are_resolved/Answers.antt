use Rattle.bg_guess.proofs.ResolvedWhole.{resolved}
use Rattle.bg_guess.proofs.laws.guesses_are_resolved.Goals as goal

pub returns : goal.returns
returns c = resolved
