use Rattle.bg_expanded.proofs.Openable.{openable}
use Rattle.bg_expanded.proofs.laws.programs_of_short_chains_are_openable.Goals as goal

pub returns : goal.returns
returns c = openable
