use Rattle.std.proofs.Common.{◌∙◌, ◌*◌, refl, rules, arith}
use Rattle.bg_point.specs.Points.{target_of}
use Rattle.bg_formula.specs.Formulas.{formula_of}
use Rattle.bg_cert.specs.Walks.{has}
use Rattle.bg_tree.specs.Trees.{Moves}
use Rattle.bg_tree.proofs.Paths.{paths_first}
use Rattle.bg_tree.proofs.Ends.{halted}
use Rattle.bg_tree.proofs.Told.{moved, told_first, told_more, tallied_first, tallied_more, kept_first, told_all, whole_first, whole_more, whole_all}
use Rattle.bg_pick.proofs.Readies.{first_ready}
use Rattle.bg_tree.proofs.find.searched.Goals as goal

pub loop-s-preserved : goal.loop-s-preserved
loop-s-preserved c =
    let f = formula_of c.args.problem.now.formula.now in
    let set = has c.args.problem.now.set.now in
    let targets = target_of c.args.problem.now.targets.now in
    let m : Moves targets f set c.loop-s.s c.step.new.s = moved targets f set c.args.budget.rows c.loop-s.s c.step.new.s c.in_ok-halt.field-0 c.in_default.is c.in_ok-halt.ensures.steps in
    record {
      walks = m.walks;
      sized = m.sized ∙ c.loop-s.invariant.sized;
      told = told_more targets f set (20 * c.args.budget.nodes) c.loop-s.s c.step.new.s m c.loop-s.invariant.told;
      tallied = tallied_more targets f set c.args.budget.nodes c.loop-s.s c.step.new.s m c.loop-s.invariant.tallied;
      kept = m.kept;
      within = let i = m.inner in let w = c.loop-s.invariant.within in omega (arith, i, w);
      whole = whole_more targets f set c.loop-s.s c.step.new.s m c.loop-s.invariant.whole;
      paths = m.paths c.loop-s.invariant.paths;
      ready = c.in_ok-halt.ensures.ready c.in_default.is;
    }

pub returns-in-Some : goal.returns-in-Some
returns-in-Some c =
    let e = c.in_ok-halt.ensures.steps in
    let s = rw c.in-Some.is at e in
    rw c.outcome_of.ensures (halted (target_of c.args.problem.now.targets.now) (formula_of c.args.problem.now.formula.now) (has c.args.problem.now.set.now) c.args.budget c.loop-s.s c.step.new.s c.in-Some.halt s c.loop-s.invariant.paths c.loop-s-test.true)

pub returns-then-s : goal.returns-then-s
returns-then-s c =
    let t = told_all (target_of c.args.problem.now.targets.now) (formula_of c.args.problem.now.formula.now) (has c.args.problem.now.set.now) c.args.budget.nodes c.loop-s.s c.loop-s.invariant.told c.loop-s.invariant.tallied c.loop-s.invariant.kept c.loop-s.invariant.within c.loop-s-test.false c.if-s.true in
    (refl, t.0, t.1)

pub returns : goal.returns
returns c =
    whole_all (formula_of c.args.problem.now.formula.now) (has c.args.problem.now.set.now) c.loop-s.s c.in_ok-whole.field-0 c.loop-s.invariant.whole c.loop-s-test.false c.if-s.false c.in_ok-whole.ensures

pub loop-s-init : goal.loop-s-init
loop-s-init c =
    let f = formula_of c.args.problem.now.formula.now in
    let set = has c.args.problem.now.set.now in
    let targets = target_of c.args.problem.now.targets.now in
    let e = c.in_ok-s.ensures in
    record {
      walks = e.walks;
      sized = search rules;
      told = told_first targets f set (20 * c.args.budget.nodes) c.in_ok-s.s e.parts (e.stack f) e.seen e.inner;
      tallied = tallied_first f set c.args.budget.nodes c.in_ok-s.s e.parts (e.stack f) e.left e.head e.owed;
      kept = kept_first f set c.args.budget.nodes c.in_ok-s.s (e.stack f) e.left e.head e.owed e.seen e.small;
      within = rw e.inner (omega arith);
      whole = whole_first f set c.in_ok-s.s e.parts (e.stack f);
      paths = paths_first targets f set c.in_ok-s.s.walk (e.stack f);
      ready = first_ready f set c.args.problem.now.index.now _ _ c.requires.named (e.stack f) c.first_guide-guide.ensures;
    }
