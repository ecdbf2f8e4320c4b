use Rattle.bg_named.proofs.Stmts.{named_statements}
use Rattle.bg_named.proofs.laws.statements_are_named.Goals as goal

pub returns : goal.returns
returns c = named_statements
