use Rattle.std.specs.Prelude.{reverse}
use Rattle.bg_formula.specs.Formulas.{formula_of}
use Rattle.bg_cert.specs.Walks.{has, decided_on, others_of}
use Rattle.bg_pick.proofs.Bounded.{bound_ready}
use Rattle.bg_tree.proofs.step.halve.Goals as goal

pub returns-in_ok-split-clause-ready : goal.returns-in_ok-split-clause-ready
returns-in_ok-split-clause-ready c =
    let f = formula_of c.args.problem.now.formula.now in
    let k = c.args.kept.gap in
    bound_ready f (has c.args.problem.now.set.now) c.args.problem.now.index.now (decided_on c.args.s.now.walk) c.args.guide.now.mark k.variable k.below (others_of f c.args.s.now.walk) _ (reverse c.args.guide.now.marks.items) _ c.requires.may.fine c.requires.mark c.requires.others c.in_ok-emit_bound.ensures.stack c.in_ok-split.ensures
