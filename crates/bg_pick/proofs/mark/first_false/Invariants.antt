use Rattle.bg_formula.specs.Formulas.{formula_of}
use Rattle.bg_cert.specs.Walks.{has}
use Rattle.bg_pick.proofs.Marked.{FalseBelow}
use Rattle.bg_pick.proofs.mark.first_false.Given as goal

abbrev pub invariant-loop-x : goal.invariant-loop-x
invariant-loop-x l = FalseBelow (formula_of l.f) (has l.set) l.trail.decisions.items l.hints l.x-index
