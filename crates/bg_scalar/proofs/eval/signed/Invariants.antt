use Rattle.std.proofs.Common.{◌≡◌, length}
use Rattle.bg_scalar.specs.Signs.{signed}
use Rattle.bg_scalar.specs.Views.{worth_in}
use Rattle.bg_scalar.proofs.eval.signed.Given as goal

abbrev pub invariant-loop-last : goal.invariant-loop-last
invariant-loop-last l = signed l.left (worth_in l.value) ≡ signed l.signs (worth_in l.initial.value)

abbrev pub decreases-loop-last : goal.decreases-loop-last
decreases-loop-last l = length l.left
