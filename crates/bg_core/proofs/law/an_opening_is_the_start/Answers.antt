use Rattle.bg_core.proofs.Tabled.{opening_is_start}
use Rattle.bg_core.proofs.law.an_opening_is_the_start.Goals as goal

pub returns : goal.returns
returns c = opening_is_start
