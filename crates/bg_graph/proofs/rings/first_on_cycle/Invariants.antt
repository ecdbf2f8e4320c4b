use Rattle.bg_graph.specs.Graphs.{graph_of}
use Rattle.bg_graph.proofs.Walks.{Searched}
use Rattle.bg_graph.proofs.rings.first_on_cycle.Given as goal

abbrev pub invariant-loop-root : goal.invariant-loop-root
invariant-loop-root l = Searched (graph_of l.edges) l.spots.items l.root l.last l.first
