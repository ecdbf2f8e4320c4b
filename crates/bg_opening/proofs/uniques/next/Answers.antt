use Rattle.std.proofs.Common.{arith}
use Rattle.bg_opening.proofs.uniques.next.Goals as goal

pub returns : goal.returns
returns c = omega (arith, c.in-Some.ensures)
