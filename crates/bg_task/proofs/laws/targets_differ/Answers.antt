use Rattle.bg_task.proofs.Differing.{differ}
use Rattle.bg_task.proofs.laws.targets_differ.Goals as goal

pub returns : goal.returns
returns c = differ
