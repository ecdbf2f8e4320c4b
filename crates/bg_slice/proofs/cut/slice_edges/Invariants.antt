use Rattle.std.proofs.Common.{◌≡◌, map, ◌++◌, drop}
use Rattle.bg_places.specs.Views.{spot_of}
use Rattle.bg_formed.specs.Seen.{use_of}
use Rattle.bg_formed.specs.Views.{form_edge_of}
use Rattle.bg_slice.specs.Slices.{slice_edges}
use Rattle.bg_slice.proofs.cut.slice_edges.Given as goal

abbrev pub invariant-loop-e : goal.invariant-loop-e
invariant-loop-e l =
    map form_edge_of l.made.items ++ slice_edges (spot_of l.target) (map use_of l.later.items) (map form_edge_of (drop l.e-index l.edges)) ≡ slice_edges (spot_of l.target) (map use_of l.later.items) (map form_edge_of l.edges)
