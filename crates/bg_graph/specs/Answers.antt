-- What the answer about a graph says.
use Rattle.bg_graph.specs.declared.order.Order.{Order}
use Rattle.bg_graph.specs.declared.order.Order.TheVariants.{Acyclic, Cyclic}
use Rattle.bg_graph.specs.Graphs.{Graph, IsAcyclic, IsRanking, IsFirstOnCycle}

-- ranks, and then no node reaches itself; or the first node that reaches itself
abbrev pub IsAnswer : Graph → Order → Type 0
IsAnswer g (Acyclic ranks) = IsRanking g ranks.items × IsAcyclic g
IsAnswer g (Cyclic f) = IsFirstOnCycle g f
