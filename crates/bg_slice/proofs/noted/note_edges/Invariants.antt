use Rattle.std.proofs.Common.{◌≡◌, map, drop}
use Rattle.bg_places.specs.Views.{spot_of}
use Rattle.bg_formed.specs.Seen.{use_of}
use Rattle.bg_formed.specs.Views.{form_edge_of}
use Rattle.bg_slice.specs.Slices.{slice_edges}
use Rattle.bg_slice.specs.Noted.{kept_in, noted_edges}
use Rattle.bg_slice.proofs.noted.note_edges.Given as goal

abbrev pub invariant-loop-e : goal.invariant-loop-e
invariant-loop-e l =
    noted_edges l.base (slice_edges (spot_of l.target) (map use_of l.later.items) (map form_edge_of (drop l.e-index l.edges))) (kept_in l.marks) ≡ noted_edges l.base (slice_edges (spot_of l.target) (map use_of l.later.items) (map form_edge_of l.edges)) (kept_in l.fn.marks)
