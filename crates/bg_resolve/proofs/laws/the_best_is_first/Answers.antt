use Rattle.bg_resolve.proofs.Order.{best_some, best_none}
use Rattle.bg_resolve.proofs.laws.the_best_is_first.Goals as goal

pub returns-clause-some : goal.returns-clause-some
returns-clause-some c = best_some

pub returns-clause-none : goal.returns-clause-none
returns-clause-none c = best_none
