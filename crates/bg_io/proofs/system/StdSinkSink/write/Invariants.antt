-- The count of faults never falls.
use Rattle.std.proofs.Common.{◌≤◌}
use Rattle.bg_io.proofs.system.StdSinkSink.write.Given as goal

abbrev pub invariant-loop : goal.invariant-loop
invariant-loop g l = l.fn.self.faults ≤ l.self.faults
