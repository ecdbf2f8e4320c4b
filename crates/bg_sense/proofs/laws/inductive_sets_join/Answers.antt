use Rattle.bg_sense.proofs.Unions.{union_inductive}
use Rattle.bg_sense.proofs.laws.inductive_sets_join.Goals as goal

pub returns : goal.returns
returns c = union_inductive
