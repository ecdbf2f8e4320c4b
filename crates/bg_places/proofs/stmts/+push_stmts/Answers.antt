use Rattle.std.proofs.Common.{◌++◌, map, sym, None, append_assoc}
use Rattle.bg_ast.specs.Execution.{AtEntry, AfterTurn}
use Rattle.bg_ast.specs.Views.{proc_of, sts_in, arms_from, arm_view, clause_of}
use Rattle.bg_places.specs.Placed.{placed_sts, placed_arms, placed_clauses}
use Rattle.bg_places.specs.Views.{placed_in}
use Rattle.bg_places.proofs.Forms.{placed-If, placed-While}
use Rattle.bg_places.proofs.stmts.+push_stmts.Goals as goal

pub push_stmt-returns-in_ok-push_arms-in-If : goal.push_stmt-returns-in_ok-push_arms-in-If
push_stmt-returns-in_ok-push_arms-in-If t c =
    let qs = map proc_of c.args.procedures.now in
    let m = c.args.implementation in
    rw (
      c.in-If.is,
      placed-If qs m c.in-If.field-0 c.in-If.arms c.in-If.otherwise,
      sym c.deref.ensures.value,
      sym c.deref-in-If.ensures.value,
      sym (append_assoc (placed_in c.args.out.now.items) (placed_arms qs m (arms_from (map arm_view c.deref.result.now))) (placed_sts qs m (sts_in c.deref-in-If.result.now))),
      sym c.in_ok-push_arms-in-If.ensures,
    )
    c.push_stmts.ensures

pub push_stmt-returns-in_ok-push_stmts-in-While : goal.push_stmt-returns-in_ok-push_stmts-in-While
push_stmt-returns-in_ok-push_stmts-in-While t c =
    let qs = map proc_of c.args.procedures.now in
    let m = c.args.implementation in
    let is = map clause_of c.deref-in-While.result.now in
    let body = placed_sts qs m (sts_in c.deref-in-While-2.result.now) in
    rw (
      c.in-While.is,
      placed-While qs m c.in-While.field-0 c.in-While.field-1 c.in-While.field-2 c.in-While.invariants c.in-While.body,
      sym c.deref-in-While.ensures.value,
      sym c.deref-in-While-2.ensures.value,
      sym (append_assoc (placed_in c.args.out.now.items) (placed_clauses m AtEntry None is) (body ++ placed_clauses m AfterTurn None is)),
      sym c.in_ok-push_checks-in-While.ensures,
      sym (append_assoc (placed_in c.push_checks.new.out.items) body (placed_clauses m AfterTurn None is)),
      sym c.in_ok-push_stmts-in-While.ensures,
      c.deref-in-While.ensures.value,
      sym c.deref-in-While-3.ensures.value,
    )
    c.push_checks-in-While.ensures
