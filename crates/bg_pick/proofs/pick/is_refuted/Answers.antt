use Rattle.std.proofs.Common.{◌∙◌, sym}
use Rattle.bg_formula.specs.Formulas.{formula_of}
use Rattle.bg_cert.specs.Walks.{has}
use Rattle.bg_pick.proofs.Readies.{nothing_false, something_false}
use Rattle.bg_pick.proofs.pick.is_refuted.Goals as goal

pub returns-in-Some : goal.returns-in-Some
returns-in-Some c =
    sym (something_false (formula_of c.args.problem.now.formula.now) (has c.args.problem.now.set.now) c.args.trail.now.decisions.items _ c.in-Some.ensures)

pub returns-in-None : goal.returns-in-None
returns-in-None c =
    let n = c.len.ensures ∙ c.args.trail.now.decisions.ok.0 in
    let e = c.row_at-last.ensures in
    let h = c.in-None.ensures in
    let g = rw (e, n) at h in
    sym (nothing_false (formula_of c.args.problem.now.formula.now) (has c.args.problem.now.set.now) c.args.problem.now.index.now c.args.trail.now.decisions.items c.args.mark.now c.requires g)
