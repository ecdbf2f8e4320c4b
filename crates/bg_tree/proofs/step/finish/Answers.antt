use Rattle.bg_point.specs.Points.{target_of}
use Rattle.bg_formula.specs.Formulas.{formula_of}
use Rattle.bg_cert.specs.Walks.{has, decided_on}
use Rattle.bg_tree.proofs.Paths.{open_bounds}
use Rattle.bg_tree.proofs.Ends.{gap_may}
use Rattle.bg_tree.proofs.step.finish.Goals as goal

pub halve-requires-clause-may : goal.halve-requires-clause-may
halve-requires-clause-may c =
    let e = c.in_ok-steps.ensures in
    let g = rw c.in-Split.is at e in
    gap_may (target_of c.args.problem.now.targets.now) (formula_of c.args.problem.now.formula.now) (has c.args.problem.now.set.now) (decided_on c.args.s.now.walk) c.in-Split.kept c.requires.complete g

pub settle-requires-clause-bounds : goal.settle-requires-clause-bounds
settle-requires-clause-bounds c =
    open_bounds (target_of c.args.problem.now.targets.now) (formula_of c.args.problem.now.formula.now) (has c.args.problem.now.set.now) c.args.s.now.walk c.requires.is_open c.requires.paths
