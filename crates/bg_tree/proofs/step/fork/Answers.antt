use Rattle.bg_point.specs.Points.{target_of}
use Rattle.bg_formula.specs.Formulas.{formula_of}
use Rattle.bg_cert.specs.Walks.{has}
use Rattle.bg_tree.proofs.Steps.{same_moves}
use Rattle.bg_tree.proofs.step.fork.Goals as goal

pub returns-clause-moves : goal.returns-clause-moves
returns-clause-moves c =
    same_moves (target_of c.args.problem.now.targets.now) (formula_of c.args.problem.now.formula.now) (has c.args.problem.now.set.now) c.args.s.now c.peek.new.s c.emit_split.new.s c.in_ok-is_false.ensures.same c.in_ok-emit_split.ensures.moves
