use Rattle.bg_meant.proofs.StMeanings.{body_fine, body_means}
use Rattle.bg_meant.proofs.laws.faultless_statements_mean_something.Goals as goal

pub returns-clause-none : goal.returns-clause-none
returns-clause-none c = body_fine

pub returns-clause-some : goal.returns-clause-some
returns-clause-some c = body_means
