use Rattle.std.proofs.Common.{◌≡◌, ◌++◌, drop}
use Rattle.bg_guess.specs.Claims.{bounds}
use Rattle.bg_guess.proofs.claim.push_bounds.Given as goal

abbrev pub invariant-loop-w : goal.invariant-loop-w
invariant-loop-w l = l.out.items ++ bounds l.v (drop l.w-index l.ws) ≡ l.fn.out.items ++ bounds l.v l.ws
