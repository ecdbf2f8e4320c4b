use Rattle.std.proofs.Common.{◌∙◌, sym}
use Rattle.std.proofs.lemmas.List.{length-map}
use Rattle.bg_point.specs.Points.{target_of}
use Rattle.bg_formula.specs.Atoms.{atom_of}
use Rattle.bg_formula.specs.Formulas.{formula_of}
use Rattle.bg_cert.specs.Walks.{has}
use Rattle.bg_tree.proofs.Descents.{first, ended}
use Rattle.bg_tree.proofs.descent.walked.Goals as goal

pub loop-left-init : goal.loop-left-init
loop-left-init c =
    first (target_of c.args.problem.now.targets.now) (formula_of c.args.problem.now.formula.now) (has c.args.problem.now.set.now) c.args.problem.now.index.now _ c.requires.named (c.in_ok-first_trail.ensures.sized ∙ (c.len-atoms.ensures ∙ (c.args.problem.now.formula.now.atoms.ok.0 ∙ sym (length-map c.args.problem.now.formula.now.atoms.items atom_of)))) c.in_ok-first_trail.ensures.bare c.first_guide.ensures

pub returns-in-Ended : goal.returns-in-Ended
returns-in-Ended c =
    let e = c.in_ok-step_down.ensures in
    let h = rw c.in-Ended.is at e in
    rw c.outcome_of.ensures (ended (target_of c.args.problem.now.targets.now) (formula_of c.args.problem.now.formula.now) (has c.args.problem.now.set.now) c.args.budget c.step_down.new.d c.in-Ended.halt h.0 h.1)
