use Rattle.bg_named.proofs.Clauses.{clause_plain}
use Rattle.bg_named.proofs.laws.clauses_have_no_old.Goals as goal

pub returns : goal.returns
returns c = clause_plain
