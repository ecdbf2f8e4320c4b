use Rattle.bg_graph.proofs.Paths.{ranked_acyclic}
use Rattle.bg_graph.proofs.laws.ranks_mean_no_cycle.Goals as goal

pub returns : goal.returns
returns c g ranks k = ranked_acyclic g ranks k
