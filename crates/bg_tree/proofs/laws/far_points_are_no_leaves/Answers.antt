use Rattle.bg_tree.proofs.Distant.{far_leaf}
use Rattle.bg_tree.proofs.laws.far_points_are_no_leaves.Goals as goal

pub returns : goal.returns
returns c = far_leaf
