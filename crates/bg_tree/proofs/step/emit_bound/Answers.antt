use Rattle.std.proofs.Common.{refl, ◌-◌}
use Rattle.bg_point.specs.Points.{target_of}
use Rattle.bg_formula.specs.Formulas.{formula_of}
use Rattle.bg_cert.specs.Walks.{has}
use Rattle.bg_tree.proofs.Steps.{bound_moves}
use Rattle.bg_tree.proofs.step.emit_bound.Goals as goal

pub returns-clause-moves : goal.returns-clause-moves
returns-clause-moves c =
    let s = c.in_ok-open_both.ensures.stack (formula_of c.args.problem.now.formula.now) in
    let t = rw (c.at_gap-first.ensures, c.at_gap-second.ensures) at s in
    bound_moves (target_of c.args.problem.now.targets.now) (formula_of c.args.problem.now.formula.now) (has c.args.problem.now.set.now) c.args.s.now (record { walk = c.open_both.new.walk; parts = c.push.new.self; inner = c.args.s.now.inner - 1; book = c.owe.new.book; seen = c.args.s.now.seen }) c.args.kept c.in_ok-open_both.ensures.walks c.in_ok-open_both.ensures.sized c.requires.is_open c.requires.may c.in_ok-push.ensures.items t refl c.requires.is_inner refl c.in_ok-open_both.ensures.more c.requires.kept c.requires.is_left c.in_ok-owe.ensures.owed c.in_ok-owe.ensures.head c.in_ok-owe.ensures.left
