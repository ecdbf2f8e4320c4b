use Rattle.bg_task.proofs.Differing.{without_terms}
use Rattle.bg_task.proofs.laws.without_terms_targets_are_zero.Goals as goal

pub returns : goal.returns
returns c = without_terms
