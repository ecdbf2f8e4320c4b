use Rattle.bg_replay.proofs.Replays.{induction_is}
use Rattle.bg_replay.proofs.laws.replays_are_induction_runs.Goals as goal

pub returns : goal.returns
returns c = induction_is
