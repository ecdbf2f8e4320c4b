use Rattle.bg_flatten.proofs.Applied.{are_ordinary}
use Rattle.bg_flatten.proofs.laws.terms_are_ordinary.Goals as goal

pub returns : goal.returns
returns c fs incs blocks = are_ordinary fs incs blocks
