use Rattle.bg_clause.proofs.Alike.{all_valued, all_denied, inside}
use Rattle.bg_clause.proofs.laws.clauses_fail_alike.Goals as goal

pub returns : goal.returns
returns c = record { met = all_valued; denied = all_denied; inside = inside }
