use Rattle.std.proofs.Common.{sym, ◌∙◌}
use Rattle.bg_graph.proofs.Rows.{all_rows, row_fits}
use Rattle.bg_graph.proofs.graph.is_graph.Goals as goal

pub returns-then-not-is_row-clause-only : goal.returns-then-not-is_row-clause-only
returns-then-not-is_row-clause-only c few graph =
    sym c.if-not-is_row.true ∙ c.is_row.ensures.1 (row_fits c.args.edges.now c.loop-row.row-index c.row-item.result c.deref.result.now c.loop-row-test.true c.row-item.is c.deref.ensures.value graph)

pub returns-clause-graph : goal.returns-clause-graph
returns-clause-graph c t = all_rows c.args.edges.now c.loop-row.row-index c.loop-row-test.false c.loop-row.invariant
