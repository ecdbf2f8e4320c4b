use Rattle.std.specs.Prelude.{reverse}
use Rattle.bg_formula.specs.Formulas.{formula_of}
use Rattle.bg_cert.specs.Walks.{has, decided_on, others_of}
use Rattle.bg_pick.proofs.Readies.{split_ready}
use Rattle.bg_tree.proofs.step.divide.Goals as goal

pub returns-in_ok-split-clause-ready : goal.returns-in_ok-split-clause-ready
returns-in_ok-split-clause-ready c =
    let f = formula_of c.args.problem.now.formula.now in
    split_ready f (has c.args.problem.now.set.now) c.args.problem.now.index.now (decided_on c.args.s.now.walk) c.args.guide.now.mark c.args.a (others_of f c.args.s.now.walk) _ (reverse c.args.guide.now.marks.items) _ c.requires.named c.requires.may.fine c.requires.mark c.requires.others c.in_ok-fork.ensures.stack c.in_ok-split.ensures
