use Rattle.bg_replay.proofs.More.{same_runs}
use Rattle.bg_replay.proofs.laws.runs_with_more_choices_are_the_same.Goals as goal

pub returns : goal.returns
returns c = same_runs
