use Rattle.std.proofs.Common.{Option, IfSome, subst}
use Rattle.bg_point.specs.Points.{target_of}
use Rattle.bg_formula.specs.Formulas.{formula_of}
use Rattle.bg_cert.specs.Walks.{has}
use Rattle.bg_tree.specs.declared.outcome.Outcome.{Outcome}
use Rattle.bg_tree.specs.Trees.{IsOutcome}
use Rattle.bg_search.proofs.checked.followed.Goals as goal

-- src/checked.rt:64:1
pub returns-in-Some-clause-searched : goal.returns-in-Some-clause-searched
returns-in-Some-clause-searched c =
    let targets = target_of c.args.aim.targets.now in
    let f = formula_of c.args.f.now in
    let set = has c.args.set.now in
    let is_outcome = subst (λ (o : Option Outcome). IfSome o (IsOutcome targets f set c.args.aim.budget)) c.in-Some.is c.in_ok-outcome.ensures in
    c.searched_of.ensures.searched targets f set c.args.aim.budget is_outcome
