use Rattle.bg_slice.proofs.Saying.{say_the_same}
use Rattle.bg_slice.proofs.laws.slices_say_the_same.Goals as goal

pub returns : goal.returns
returns c numbers truth base rows t bs are agree = say_the_same numbers truth base rows t bs are agree
