-- The count of faults never falls.
use Rattle.std.proofs.Common.{◌≤◌}
use Rattle.bg_io.proofs.system.read_counted.Given as goal

abbrev pub invariant-loop : goal.invariant-loop
invariant-loop g l = l.fn.faults ≤ l.faults
