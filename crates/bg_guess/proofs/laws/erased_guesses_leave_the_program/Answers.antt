use Rattle.bg_guess.proofs.Erasing.{erased_guesses}
use Rattle.bg_guess.proofs.laws.erased_guesses_leave_the_program.Goals as goal

pub returns : goal.returns
returns c = erased_guesses
