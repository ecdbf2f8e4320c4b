use Rattle.bg_linear.proofs.Exact.{relations_exact as law}
use Rattle.bg_linear.proofs.laws.relations_are_exact.Goals as goal

pub returns : goal.returns
returns c = law
