use Rattle.bg_point.specs.Points.{target_of}
use Rattle.bg_formula.specs.Formulas.{formula_of}
use Rattle.bg_cert.specs.Walks.{has}
use Rattle.bg_search.proofs.checked.search.Goals as goal

-- src/checked.rt:118:1
pub returns-in_ok-outcome-in-None-clause-searched :
    goal.returns-in_ok-outcome-in-None-clause-searched
returns-in_ok-outcome-in-None-clause-searched c =
    c.searched_of.ensures.searched (target_of c.args.aim.targets.now) (formula_of c.args.f.now) (has c.args.set.now) c.args.aim.budget c.in_ok-outcome-in-None.ensures
