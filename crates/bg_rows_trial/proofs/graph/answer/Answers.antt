use Rattle.bg_rows_trial.proofs.graph.answer.Goals as goal

pub order_of-requires-clause-graph : goal.order_of-requires-clause-graph
order_of-requires-clause-graph c = c.is_graph.ensures.graph c.if-not-is_graph.false
