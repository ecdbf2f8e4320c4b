use Rattle.bg_expr.proofs.Small.{few_nodes}
use Rattle.bg_expr.proofs.laws.nodes_are_few.Goals as goal

pub returns : goal.returns
returns c k e ts h = few_nodes k e ts h
