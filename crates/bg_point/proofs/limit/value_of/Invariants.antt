use Rattle.std.proofs.Common.{◌≡◌, drop}
use Rattle.bg_point.specs.Points.{value_of}
use Rattle.bg_point.proofs.limit.value_of.Given as goal

abbrev pub invariant-loop-s : goal.invariant-loop-s
invariant-loop-s l = value_of (drop l.s-index l.spots) l.x ≡ value_of l.spots l.x
