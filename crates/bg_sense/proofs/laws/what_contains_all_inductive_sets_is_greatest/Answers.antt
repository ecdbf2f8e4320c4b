use Rattle.bg_sense.proofs.Unions.{greatest_from}
use Rattle.bg_sense.proofs.laws.what_contains_all_inductive_sets_is_greatest.Goals as goal

pub returns : goal.returns
returns c = greatest_from
