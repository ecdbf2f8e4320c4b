use Rattle.std.proofs.Common.{◌∙◌}
use Rattle.bg_point.specs.Points.{target_of}
use Rattle.bg_formula.specs.Formulas.{formula_of}
use Rattle.bg_cert.specs.Walks.{has}
use Rattle.bg_cert.specs.Certs.{root}
use Rattle.bg_tree.proofs.Paths.{way_bounds}
use Rattle.bg_tree.proofs.Descents.{bound_on}
use Rattle.bg_tree.proofs.descent.finish.Goals as goal

pub settle-requires-clause-bounds : goal.settle-requires-clause-bounds
settle-requires-clause-bounds c =
    let f = formula_of c.args.problem.now.formula.now in
    way_bounds (target_of c.args.problem.now.targets.now) f (has c.args.problem.now.set.now) (root f) c.args.d.now.trail.decisions.items c.requires.way

pub returns-in-Split : goal.returns-in-Split
returns-in-Split c =
    let e = c.in_ok-settle.ensures in
    let g = rw c.in-Split.is at e in
    bound_on (target_of c.args.problem.now.targets.now) (formula_of c.args.problem.now.formula.now) (has c.args.problem.now.set.now) c.args.problem.now.index.now _ c.args.d.now.trail.decisions.items c.in-Split.kept c.side_of.result (c.in_ok-decide-in-Split.ensures.sized ∙ c.requires.sized) c.requires.way c.requires.complete c.requires.mark g c.side_of.ensures c.in_ok-decide-in-Split.ensures.decided
