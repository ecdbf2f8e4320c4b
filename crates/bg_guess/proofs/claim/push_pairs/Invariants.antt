use Rattle.std.proofs.Common.{◌≡◌, ◌++◌, take, drop, []}
use Rattle.bg_guess.specs.Claims.{pairs}
use Rattle.bg_guess.proofs.claim.push_pairs.Given as goal

abbrev pub invariant-loop-i : goal.invariant-loop-i
invariant-loop-i l = l.out.items ++ pairs (take l.i l.vs) (drop l.i l.vs) ≡ l.fn.out.items ++ pairs [] l.vs
