use Rattle.bg_named.proofs.Recursion.{no_recursion}
use Rattle.bg_named.proofs.laws.functions_do_not_recur.Goals as goal

pub returns : goal.returns
returns c = no_recursion c.calls_go_to_functions.ensures c.an_acyclic_graph_has_ranks.ensures
