use Rattle.bg_opened.proofs.Whole.{inductive, greatest}
use Rattle.bg_opened.proofs.laws.inductive_sets_are_opened_ones.Goals as goal

pub returns-clause-inductive : goal.returns-clause-inductive
returns-clause-inductive c = λ depth p set h. inductive depth p h set

pub returns-clause-greatest : goal.returns-clause-greatest
returns-clause-greatest c = λ depth p set h. greatest depth p h set
