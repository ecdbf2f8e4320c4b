use Rattle.std.proofs.Common.{◌≡◌, map, ◌++◌, drop}
use Rattle.bg_formed.specs.Views.{form_edge_of}
use Rattle.bg_ahead.specs.Moved.{moved_edge}
use Rattle.bg_ahead.proofs.moved.edges.Given as goal

abbrev pub invariant-loop-e : goal.invariant-loop-e
invariant-loop-e l =
    map form_edge_of l.made.items ++ map (moved_edge l.goes) (map form_edge_of (drop l.e-index l.edges)) ≡ map (moved_edge l.goes) (map form_edge_of l.edges)
