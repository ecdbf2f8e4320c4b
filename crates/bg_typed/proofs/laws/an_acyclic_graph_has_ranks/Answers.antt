use Rattle.bg_typed.proofs.Depth.{ranks}
use Rattle.bg_typed.proofs.laws.an_acyclic_graph_has_ranks.Goals as goal

pub returns : goal.returns
returns c = ranks
