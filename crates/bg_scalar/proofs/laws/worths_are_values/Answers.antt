use Rattle.bg_scalar.proofs.Agreeing.{worth_is}
use Rattle.bg_scalar.proofs.laws.worths_are_values.Goals as goal

pub returns : goal.returns
returns c = worth_is
