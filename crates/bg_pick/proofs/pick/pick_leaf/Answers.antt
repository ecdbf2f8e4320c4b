use Rattle.std.proofs.Common.{◌∙◌}
use Rattle.bg_formula.specs.Formulas.{formula_of}
use Rattle.bg_cert.specs.Walks.{has}
use Rattle.bg_pick.proofs.Readies.{nothing_false}
use Rattle.bg_pick.proofs.pick.pick_leaf.Goals as goal

pub returns-in-None : goal.returns-in-None
returns-in-None c =
    let n = c.len.ensures ∙ c.args.trail.now.decisions.ok.0 in
    let e = c.row_at-hints.ensures in
    let h = c.in-None.ensures in
    let g = rw (e, n) at h in
    nothing_false (formula_of c.args.problem.now.formula.now) (has c.args.problem.now.set.now) c.args.problem.now.index.now c.args.trail.now.decisions.items c.args.mark.now c.requires g
