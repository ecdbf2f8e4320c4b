use Rattle.bg_graph.proofs.Walks.{is_node}
use Rattle.bg_graph.proofs.laws.what_reaches_is_a_node.Goals as goal

pub returns : goal.returns
returns c = is_node
