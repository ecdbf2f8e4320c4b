use Rattle.bg_named.proofs.Exprs.{named_expression}
use Rattle.bg_named.proofs.laws.expressions_are_named.Goals as goal

pub returns : goal.returns
returns c = named_expression
