use Rattle.bg_tree.proofs.Idle.{ways_plain}
use Rattle.bg_tree.proofs.laws.ways_over_truths_have_no_bounds.Goals as goal

pub returns : goal.returns
returns c = ways_plain
