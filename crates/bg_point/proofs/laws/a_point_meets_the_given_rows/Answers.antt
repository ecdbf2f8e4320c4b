use Rattle.bg_point.proofs.Upto.{point_meets as law}
use Rattle.bg_point.proofs.laws.a_point_meets_the_given_rows.Goals as goal

pub returns : goal.returns
returns c = law
