use Rattle.std.proofs.Common.{◌+◌, drop}
use Rattle.bg_expanded.specs.Weights.{total}
use Rattle.bg_expanded.specs.Bodies.{IsAlike}
use Rattle.bg_expanded.proofs.count.rest_of.Given as goal

abbrev pub invariant-loop-place : goal.invariant-loop-place
invariant-loop-place l = IsAlike (l.sum + total (drop l.place l.reads)) (total (drop l.from l.reads))
