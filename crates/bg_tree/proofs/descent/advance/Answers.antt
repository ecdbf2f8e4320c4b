use Rattle.std.proofs.Common.{◌∙◌}
use Rattle.bg_point.specs.Points.{target_of}
use Rattle.bg_formula.specs.Formulas.{formula_of}
use Rattle.bg_cert.specs.Walks.{has}
use Rattle.bg_tree.proofs.Descents.{atom_on}
use Rattle.bg_tree.proofs.descent.advance.Goals as goal

pub returns : goal.returns
returns c =
    let e = c.in_ok-decide.ensures in
    atom_on (target_of c.args.problem.now.targets.now) (formula_of c.args.problem.now.formula.now) (has c.args.problem.now.set.now) c.args.problem.now.index.now _ c.args.d.now.trail.decisions.items c.args.a c.sign_of.result c.requires.named (e.sized ∙ c.requires.sized) c.requires.way c.requires.may c.requires.mark e.decided
