use Rattle.bg_opened.proofs.Places.{places_alike}
use Rattle.bg_opened.specs.Axioms.{of_axioms}
use Rattle.bg_opened.proofs.Whole.{q_openable, met, meets}
use Rattle.bg_opened.proofs.laws.axioms_have_a_program.Goals as goal

pub returns-clause-openable : goal.returns-clause-openable
returns-clause-openable c = q_openable

pub returns-clause-place : goal.returns-clause-place
returns-clause-place c = λ depth p. places_alike depth (of_axioms p)

pub returns-clause-met : goal.returns-clause-met
returns-clause-met c = λ depth p set i h. met depth p h set i

pub returns-clause-meets : goal.returns-clause-meets
returns-clause-meets c = λ depth p set i s choices h. meets depth p h set i s choices
