use Rattle.bg_linear.proofs.Exact.{scalars_held as law}
use Rattle.bg_linear.proofs.laws.scalar_values_hold.Goals as goal

pub returns : goal.returns
returns c = law
