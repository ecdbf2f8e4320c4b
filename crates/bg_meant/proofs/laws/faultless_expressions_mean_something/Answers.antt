use Rattle.bg_meant.proofs.Meanings.{means_fine, faultless_means}
use Rattle.bg_meant.proofs.laws.faultless_expressions_mean_something.Goals as goal

pub returns-clause-none : goal.returns-clause-none
returns-clause-none c = means_fine

pub returns-clause-some : goal.returns-clause-some
returns-clause-some c = faultless_means
