use Rattle.std.proofs.Common.{refl}
use Rattle.bg_turns.proofs.crew.for_each_mut.Goals as goal

-- src/crew.rt:117:1
pub returns : goal.returns
returns g c i d l = (refl, c.leave_each.ensures.each i d l)
