use Rattle.std.proofs.Common.{◌+◌, ◌*◌, length}
use Rattle.bg_turns.proofs.crew.+each.Given as goal

abbrev pub decreases-both : goal.decreases-both
decreases-both g l = 4 * length l.rest.now + 2

abbrev pub decreases-both-ours : goal.decreases-both-ours
decreases-both-ours g l = 4 * length l.rest.now + 1

abbrev pub decreases-leave_each : goal.decreases-leave_each
decreases-leave_each g l = 4 * length l.s.now
