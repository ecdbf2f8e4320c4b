use Rattle.std.proofs.Common.{◌≡◌, length, map}
use Rattle.bg_places.specs.Views.{spot_of}
use Rattle.bg_formed.specs.Used.{use_edges}
use Rattle.bg_formed.specs.Views.{form_edge_of}
use Rattle.bg_formed.specs.Seen.{use_of}
use Rattle.bg_formed.proofs.Onward.{edges_on}
use Rattle.bg_formed.proofs.used.use_edges.Given as goal

abbrev pub invariant-loop-last : goal.invariant-loop-last
invariant-loop-last l =
    edges_on (spot_of l.target) (map use_of l.later.items) (map form_edge_of l.left) (use_of l.made) ≡ use_edges (spot_of l.target) (map use_of l.later.items) (map form_edge_of l.edges)

abbrev pub decreases-loop-last : goal.decreases-loop-last
decreases-loop-last l = length l.left
