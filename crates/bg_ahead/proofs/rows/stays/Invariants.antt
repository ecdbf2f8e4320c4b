use Rattle.std.proofs.Common.{◌≡◌}
use Rattle.bg_ahead.specs.Rows.{stays}
use Rattle.bg_ahead.proofs.rows.stays.Given as goal

abbrev pub invariant-loop-atom : goal.invariant-loop-atom
invariant-loop-atom l = l.made.items ≡ stays 0 l.atom
