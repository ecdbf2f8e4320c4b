use Rattle.bg_named.proofs.Clauses.{clause_named}
use Rattle.bg_named.proofs.laws.clauses_are_named.Goals as goal

pub returns : goal.returns
returns c = clause_named
