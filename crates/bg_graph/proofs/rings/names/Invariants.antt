use Rattle.std.proofs.Common.{take, Contains}
use Rattle.bg_graph.proofs.rings.names.Given as goal

abbrev pub invariant-loop-t : goal.invariant-loop-t
invariant-loop-t l = Contains (take l.t-index l.row) l.node → ⊥
