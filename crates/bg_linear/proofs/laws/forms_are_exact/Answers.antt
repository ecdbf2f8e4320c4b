use Rattle.bg_linear.proofs.Exact.{forms_exact as law}
use Rattle.bg_linear.proofs.laws.forms_are_exact.Goals as goal

pub returns : goal.returns
returns c = law
