use Rattle.bg_linear.proofs.Inside.{relations_inside as law}
use Rattle.bg_linear.proofs.laws.rows_name_incarnations.Goals as goal

pub returns : goal.returns
returns c = law
