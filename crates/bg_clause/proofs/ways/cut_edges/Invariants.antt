use Rattle.std.proofs.Common.{◌≡◌, length, map}
use Rattle.bg_places.specs.Views.{spot_of}
use Rattle.bg_formed.specs.Seen.{use_of}
use Rattle.bg_formed.specs.Views.{form_edge_of}
use Rattle.bg_slice.specs.Slices.{slice_edges}
use Rattle.bg_clause.specs.Failing.{fail_edges}
use Rattle.bg_clause.specs.Lends.{lent_in}
use Rattle.bg_clause.specs.Views.{short_in}
use Rattle.bg_clause.proofs.Onward.{edges_on}
use Rattle.bg_clause.proofs.ways.cut_edges.Given as goal

abbrev pub invariant-loop-last : goal.invariant-loop-last
invariant-loop-last l =
    edges_on l.units (spot_of l.target) (map short_in l.later.fails.items) (slice_edges (spot_of l.target) (map use_of l.later.uses.items) (map form_edge_of l.left)) (lent_in l.made) ≡ fail_edges l.units (spot_of l.target) (map short_in l.later.fails.items) (slice_edges (spot_of l.target) (map use_of l.later.uses.items) (map form_edge_of l.edges))

abbrev pub decreases-loop-last : goal.decreases-loop-last
decreases-loop-last l = length l.left
