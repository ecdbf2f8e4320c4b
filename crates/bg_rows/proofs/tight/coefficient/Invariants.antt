use Rattle.std.proofs.Common.{◌≡◌, drop}
use Rattle.bg_rows.specs.Entries.{coefficient}
use Rattle.bg_rows.proofs.tight.coefficient.Given as goal

abbrev pub invariant-loop-t : goal.invariant-loop-t
invariant-loop-t l = coefficient l.x (drop l.t-index l.entries) ≡ coefficient l.x l.entries
