use Rattle.bg_formula.specs.Formulas.{formula_of}
use Rattle.bg_cert.specs.Walks.{has}
use Rattle.bg_pick.proofs.Readies.{child_ready}
use Rattle.bg_pick.proofs.pick.fails.Goals as goal

pub is_refuted-yes-requires : goal.is_refuted-yes-requires
is_refuted-yes-requires c =
    rw c.in_ok-decide.ensures.decided (child_ready (formula_of c.args.problem.now.formula.now) (has c.args.problem.now.set.now) c.args.problem.now.index.now c.args.trail.now.decisions.items c.args.mark.now c.args.a c.args.s c.requires.named c.requires.fine c.requires.mark)
