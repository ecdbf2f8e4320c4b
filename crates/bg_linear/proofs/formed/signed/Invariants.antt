use Rattle.std.proofs.Common.{◌≡◌, length}
use Rattle.bg_linear.specs.Chains.{signed_form}
use Rattle.bg_linear.specs.Views.{made_of}
use Rattle.bg_linear.proofs.formed.signed.Given as goal

abbrev pub invariant-loop-last : goal.invariant-loop-last
invariant-loop-last l = signed_form l.left (made_of l.made) ≡ signed_form l.signs (made_of l.fn.f)

abbrev pub decreases-loop-last : goal.decreases-loop-last
decreases-loop-last l = length l.left
