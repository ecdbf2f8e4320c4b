use Rattle.std.proofs.Common.{◌≡◌}
use Rattle.bg_spaces.specs.Declarations.{rising}
use Rattle.bg_spaces.proofs.modifies.rising.Given as goal

abbrev pub invariant-loop-n : goal.invariant-loop-n
invariant-loop-n l = l.out.items ≡ rising l.n l.ks
