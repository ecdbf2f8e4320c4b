use Rattle.bg_opened.proofs.Passes.{passes}
use Rattle.bg_opened.proofs.laws.bodies_may_be_opened_in_passes.Goals as goal

pub returns : goal.returns
returns c = passes
