use Rattle.std.proofs.Common.{◌<◌, length}
use Rattle.bg_elim.proofs.variables.choose.Given as goal

abbrev pub invariant-loop-i : goal.invariant-loop-i
invariant-loop-i l = l.best < length l.rest
