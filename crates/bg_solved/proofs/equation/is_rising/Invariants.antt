use Rattle.std.proofs.Common.{◌≡◌, drop}
use Rattle.bg_rows.specs.Entries.{rising}
use Rattle.bg_solved.proofs.equation.is_rising.Given as goal

abbrev pub invariant-loop-t : goal.invariant-loop-t
invariant-loop-t l = rising l.low (drop l.t-index l.entries) ≡ rising 0 l.entries
