use Rattle.bg_tree.proofs.Shapes.{counted_tree}
use Rattle.bg_tree.proofs.laws.nodes_count_by_their_children.Goals as goal

pub returns : goal.returns
returns c = counted_tree
