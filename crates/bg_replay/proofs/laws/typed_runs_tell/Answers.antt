use Rattle.bg_replay.proofs.Tracks.{runs_tell}
use Rattle.bg_replay.proofs.laws.typed_runs_tell.Goals as goal

pub returns : goal.returns
returns c = runs_tell
