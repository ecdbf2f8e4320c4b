use Rattle.bg_sense.proofs.Unions.{greatest_unique}
use Rattle.bg_sense.proofs.laws.the_greatest_is_unique.Goals as goal

pub returns : goal.returns
returns c = greatest_unique
