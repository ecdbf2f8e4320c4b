use Rattle.std.proofs.Common.{refl}
use Rattle.bg_used.proofs.laws.used_decisions_are_needed.Goals as goal

pub returns : goal.returns
returns c = λ set. refl
