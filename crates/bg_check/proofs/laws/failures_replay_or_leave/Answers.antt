use Rattle.bg_check.proofs.Replaying.{fails_or_leaves}
use Rattle.bg_check.proofs.laws.failures_replay_or_leave.Goals as goal

pub returns : goal.returns
returns c = fails_or_leaves c.replays_are_induction_runs.ensures c.blocks_are_typed.ensures
