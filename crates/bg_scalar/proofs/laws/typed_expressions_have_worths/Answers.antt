use Rattle.bg_scalar.proofs.Typing.{has_worth, have_worths}
use Rattle.bg_scalar.proofs.laws.typed_expressions_have_worths.Goals as goal

pub returns-clause-one : goal.returns-clause-one
returns-clause-one c = has_worth

pub returns-clause-all : goal.returns-clause-all
returns-clause-all c = have_worths
