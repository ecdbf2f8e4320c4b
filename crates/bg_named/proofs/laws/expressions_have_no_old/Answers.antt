use Rattle.bg_named.proofs.ExprsOld.{plain_expression}
use Rattle.bg_named.proofs.laws.expressions_have_no_old.Goals as goal

pub returns : goal.returns
returns c = plain_expression
