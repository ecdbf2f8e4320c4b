use Rattle.bg_faithful.proofs.Whole.{placed}
use Rattle.bg_faithful.proofs.laws.checks_of_passive_blocks_are_places.Goals as goal

pub returns : goal.returns
returns c p k m q o im pr = placed p o k m q im pr
