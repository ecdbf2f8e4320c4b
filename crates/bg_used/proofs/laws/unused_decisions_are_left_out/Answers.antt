use Rattle.bg_used.proofs.Used.{left_out}
use Rattle.bg_used.proofs.laws.unused_decisions_are_left_out.Goals as goal

pub returns : goal.returns
returns c = left_out
