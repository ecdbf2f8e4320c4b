use Rattle.bg_opening.specs.Axioms.{of_axioms}
use Rattle.bg_opening.proofs.laws.written_axiom_programs_are_those_of_the_meaning.Goals as goal

pub returns : goal.returns
returns c = λ depth p. c.written_programs_are_opened.ensures depth (of_axioms p)
