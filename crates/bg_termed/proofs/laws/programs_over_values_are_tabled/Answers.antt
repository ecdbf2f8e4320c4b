use Rattle.bg_termed.proofs.Tabled.{tabled}
use Rattle.bg_termed.proofs.laws.programs_over_values_are_tabled.Goals as goal

pub returns : goal.returns
returns c p t o = tabled p o t
