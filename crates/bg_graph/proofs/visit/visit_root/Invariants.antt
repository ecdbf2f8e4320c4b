use Rattle.std.proofs.Common.{reverse}
use Rattle.bg_graph.specs.Graphs.{graph_of}
use Rattle.bg_graph.proofs.Visits.{Visiting, left}
use Rattle.bg_graph.proofs.visit.visit_root.Given as goal

abbrev pub invariant-loop-top : goal.invariant-loop-top
invariant-loop-top l = Visiting (graph_of l.edges) l.fn.marks l.marks (reverse l.stack.items) l.next l.root

abbrev pub decreases-loop-top : goal.decreases-loop-top
decreases-loop-top l = left l.marks
