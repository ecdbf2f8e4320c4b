use Rattle.bg_formula.specs.Formulas.{formula_of}
use Rattle.bg_cert.specs.Walks.{has}
use Rattle.bg_pick.specs.Marks.{NoUnit}
use Rattle.bg_pick.proofs.mark.unit_from.Given as goal

abbrev pub invariant-loop-k : goal.invariant-loop-k
invariant-loop-k l = NoUnit (formula_of l.f) (has l.set) l.trail.decisions.items l.hints l.from l.k
