use Rattle.bg_graph.proofs.Paths.{ranked_acyclic}
use Rattle.bg_graph.proofs.laws.answers_exclude_each_other.Goals as goal

pub returns : goal.returns
returns c g ranks f k first = ranked_acyclic g ranks k f first.0
