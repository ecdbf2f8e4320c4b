use Rattle.bg_types.proofs.verdict.rank.Goals as goal

pub order_of-requires-clause-graph : goal.order_of-requires-clause-graph
order_of-requires-clause-graph c = c.is_graph.ensures.graph c.if-not-is_graph.false
