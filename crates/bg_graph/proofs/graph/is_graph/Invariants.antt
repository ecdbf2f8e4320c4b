use Rattle.std.proofs.Common.{take, length}
use Rattle.bg_graph.specs.Graphs.{graph_of}
use Rattle.bg_graph.proofs.Rows.{RowsBelow}
use Rattle.bg_graph.proofs.graph.is_graph.Given as goal

abbrev pub invariant-loop-row : goal.invariant-loop-row
invariant-loop-row l = RowsBelow (length l.edges) (graph_of (take l.row-index l.edges))
