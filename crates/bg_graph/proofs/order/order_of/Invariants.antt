use Rattle.bg_graph.specs.Graphs.{graph_of}
use Rattle.bg_graph.proofs.Orders.{Walked}
use Rattle.bg_graph.proofs.order.order_of.Given as goal

abbrev pub invariant-loop-root : goal.invariant-loop-root
invariant-loop-root l = Walked (graph_of l.edges) l.marks.items l.next l.root
