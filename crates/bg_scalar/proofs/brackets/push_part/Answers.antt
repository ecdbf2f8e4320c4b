use Rattle.std.proofs.lemmas.Int.{to_z-of_z}
use Rattle.bg_scalar.proofs.brackets.push_part.Goals as goal

pub returns : goal.returns
returns c = simp (to_z-of_z, c.ranges.z) at c.in_ok-push.ensures.items
