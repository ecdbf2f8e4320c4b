use Rattle.std.proofs.Common.{◌≡◌, reverse}
use Rattle.bg_graph.specs.Graphs.{graph_of}
use Rattle.bg_graph.specs.Rings.{spot_of}
use Rattle.bg_graph.specs.declared.rings.Spot.TheVariants.{Fresh}
use Rattle.bg_graph.proofs.Walks.{Walking, left}
use Rattle.bg_graph.proofs.rings.walk.Given as goal

abbrev pub invariant-loop-leg : goal.invariant-loop-leg
invariant-loop-leg l = record {
  walking : Walking (graph_of l.edges) l.fn.spots l.spots l.held.items l.starts.items (reverse l.legs.items) l.fn.first l.first;
  started : spot_of l.spots l.root ≡ Fresh → ⊥;
}

abbrev pub decreases-loop-leg : goal.decreases-loop-leg
decreases-loop-leg l = left l.spots (reverse l.legs.items)
