use Rattle.std.proofs.Common.{◌≡◌, map, drop}
use Rattle.bg_incarnate.specs.Views.{edge_of}
use Rattle.bg_atoms.specs.Sorted.{edges_sorted}
use Rattle.bg_atoms.proofs.sorted.edges_sorted.Given as goal

abbrev pub invariant-loop-e : goal.invariant-loop-e
invariant-loop-e l = edges_sorted l.sorts l.candidates (map edge_of (drop l.e-index l.edges)) ≡ edges_sorted l.sorts l.candidates (map edge_of l.edges)
