use Rattle.bg_linear.proofs.Rising.{forms_are_rising as law}
use Rattle.bg_linear.proofs.laws.forms_are_normal.Goals as goal

pub returns : goal.returns
returns c = law
