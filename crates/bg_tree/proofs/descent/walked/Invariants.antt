use Rattle.bg_point.specs.Points.{target_of}
use Rattle.bg_formula.specs.Formulas.{formula_of}
use Rattle.bg_cert.specs.Walks.{has}
use Rattle.bg_tree.specs.Descents.{IsDescent}
use Rattle.bg_tree.proofs.descent.walked.Given as goal

abbrev pub invariant-loop-left : goal.invariant-loop-left
invariant-loop-left l = IsDescent (target_of l.problem.targets.now) (formula_of l.problem.formula.now) (has l.problem.set.now) l.problem.index.now l.d

abbrev pub decreases-loop-left : goal.decreases-loop-left
decreases-loop-left l = l.left
