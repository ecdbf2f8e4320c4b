use Rattle.std.proofs.Common.{◌-◌, suc, length}
use Rattle.bg_formula.specs.Formulas.{formula_of}
use Rattle.bg_cert.specs.Walks.{has}
use Rattle.bg_pick.specs.Marks.{IsMark}
use Rattle.bg_pick.proofs.mark.next_unit.Given as goal

abbrev pub invariant-loop-mark : goal.invariant-loop-mark
invariant-loop-mark l = IsMark (formula_of l.problem.formula.now) (has l.problem.set.now) l.problem.index.now l.trail.decisions.items l.mark

abbrev pub decreases-loop-mark : goal.decreases-loop-mark
decreases-loop-mark l = suc (length l.trail.decisions.items) - l.mark.row
