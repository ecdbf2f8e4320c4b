use Rattle.bg_formed.proofs.Known.{blocks_know}
use Rattle.bg_formed.proofs.laws.equations_know_their_candidates.Goals as goal

pub returns : goal.returns
returns c n these bs h set other same t w = blocks_know n these set other same t w bs h
