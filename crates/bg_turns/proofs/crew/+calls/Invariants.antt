use Prim.Native.Nat.{◌+◌, ◌*◌}
use Rattle.bg_turns.proofs.crew.+calls.Given as goal

abbrev pub decreases-call_each : goal.decreases-call_each
decreases-call_each g l = 2 * l.n

abbrev pub decreases-ours : goal.decreases-ours
decreases-ours g l = 2 * l.last + 1
