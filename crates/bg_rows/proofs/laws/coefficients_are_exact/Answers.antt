use Rattle.bg_rows.proofs.Normal.{coefficient_stays as law}
use Rattle.bg_rows.proofs.laws.coefficients_are_exact.Goals as goal

pub returns : goal.returns
returns c = law
