use Rattle.std.proofs.Common.{◌≡◌, length}
use Rattle.bg_linear.specs.ChainKinds.{signed_kind}
use Rattle.bg_linear.proofs.sorted.signed_kind.Given as goal

abbrev pub invariant-loop-last : goal.invariant-loop-last
invariant-loop-last l = signed_kind l.left l.made ≡ signed_kind l.signs l.fn.kind

abbrev pub decreases-loop-last : goal.decreases-loop-last
decreases-loop-last l = length l.left
