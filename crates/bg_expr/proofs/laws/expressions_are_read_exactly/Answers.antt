use Rattle.bg_expr.proofs.Atoms.{expr_good}
use Rattle.bg_expr.proofs.NestsOf.{expr_nests}
use Rattle.bg_expr.proofs.Whole.{reads_spelling}
use Rattle.bg_expr.proofs.laws.expressions_are_read_exactly.Goals as goal

pub returns-clause-exact : goal.returns-clause-exact
returns-clause-exact c n d = expr_good n d

pub returns-clause-nests : goal.returns-clause-nests
returns-clause-nests c n d = expr_nests n d

pub returns-clause-whole : goal.returns-clause-whole
returns-clause-whole c n d o e ts h parts shallow = reads_spelling n d o e ts h parts shallow
