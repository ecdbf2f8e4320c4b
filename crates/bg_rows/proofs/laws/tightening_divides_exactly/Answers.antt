use Rattle.bg_rows.proofs.Divisors.{tightened_exactly as law}
use Rattle.bg_rows.proofs.laws.tightening_divides_exactly.Goals as goal

pub returns : goal.returns
returns c = law
