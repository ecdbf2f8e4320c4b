use Rattle.bg_expr.proofs.Placed.{same_words}
use Rattle.bg_expr.proofs.Said.{twin, forget}
use Rattle.bg_expr.proofs.Whole.{one_expression}
use Rattle.bg_expr.proofs.laws.positions_are_the_tokens.Goals as goal

pub returns-clause-twin : goal.returns-clause-twin
returns-clause-twin c k e ts h = twin k e ts h

pub returns-clause-words : goal.returns-clause-words
returns-clause-words c k e ts h = forget k e ts h

pub returns-clause-one : goal.returns-clause-one
returns-clause-one c e f ts h k = same_words e f ts h.0 k.0 h.2 k.2

pub returns-clause-placed : goal.returns-clause-placed
returns-clause-placed c e f ts h k = one_expression e f ts h k
