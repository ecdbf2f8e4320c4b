use Rattle.bg_sense.proofs.Unions.{smaller}
use Rattle.bg_sense.proofs.laws.smaller_sets_fail_too.Goals as goal

pub returns : goal.returns
returns c = smaller
