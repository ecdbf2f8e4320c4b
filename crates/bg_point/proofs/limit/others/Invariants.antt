use Rattle.std.proofs.Common.{◌≡◌, drop, pos}
use Rattle.bg_point.specs.Points.{value_of, others}
use Rattle.bg_point.proofs.limit.others.Given as goal

abbrev pub invariant-loop-t : goal.invariant-loop-t
invariant-loop-t l = others (value_of l.spots) l.x l.sum (drop l.t-index l.entries) ≡ others (value_of l.spots) l.x (pos 0) l.entries
