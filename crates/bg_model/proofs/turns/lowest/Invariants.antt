use Rattle.std.proofs.Common.{◌≡◌, drop, map}
use Rattle.bg_formed.specs.Views.{form_edge_of}
use Rattle.bg_model.specs.Turns as spec
use Rattle.bg_model.specs.Views.{walk_in}
use Rattle.bg_model.proofs.turns.lowest.Given as goal

abbrev pub invariant-loop-j : goal.invariant-loop-j
invariant-loop-j l =
    spec.lowest (walk_in l.trial) l.later.items l.j (map form_edge_of (drop l.j l.edges)) ≡ spec.lowest (walk_in l.trial) l.later.items 0 (map form_edge_of l.edges)
