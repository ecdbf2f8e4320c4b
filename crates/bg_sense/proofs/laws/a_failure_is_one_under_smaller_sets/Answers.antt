use Rattle.bg_sense.proofs.Unions.{under_part}
use Rattle.bg_sense.proofs.laws.a_failure_is_one_under_smaller_sets.Goals as goal

pub returns : goal.returns
returns c = under_part
