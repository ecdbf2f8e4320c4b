use Rattle.bg_renamed.proofs.Means.{renamed_means}
use Rattle.bg_renamed.proofs.laws.written_expressions_are_renamed.Goals as goal

pub returns : goal.returns
returns c = renamed_means
