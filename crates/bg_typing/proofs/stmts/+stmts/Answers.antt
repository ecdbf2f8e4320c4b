use Rattle.std.proofs.Common.{◌+◌, ◌++◌, map, drop, refl, ◌∙◌, sym}
use Rattle.std.proofs.lemmas.List.{at_drop_all}
use Rattle.bg_kinds.specs.FaultViews.{best_of}
use Rattle.bg_kinds.specs.Faults.{first_of}
use Rattle.bg_ast.specs.Views.{sts_in, arms_from, arm_view}
use Rattle.bg_typing.specs.Stmts.{guard_faults, sts_faults, arms_faults}
use Rattle.bg_typing.specs.SideViews.{scope_of}
use Rattle.bg_kinds.proofs.Loops.{dropped, step_best}
use Rattle.bg_typing.proofs.Steps.{arms_step, if_best, while_best}
use Rattle.bg_typing.proofs.stmts.+stmts.Goals as goal

pub check_arms-loop-arm-preserved : goal.check_arms-loop-arm-preserved
check_arms-loop-arm-preserved t c =
    let g = scope_of c.args.g in
    let at = dropped c.args.arms.now c.loop-arm.arm-index c.arm-item.result c.loop-arm-test.true c.arm-item.is in
    let x = c.arm-item.result in
    let rest = drop (c.loop-arm.arm-index + 1) c.args.arms.now in
    step_best (λ l. arms_faults g (arms_from (map arm_view l))) (guard_faults g (arm_view x).0 ++ sts_faults g (arm_view x).1) _ rest x _ _ at (arms_step g x rest) c.in_ok-check_arm.ensures ∙ c.loop-arm.invariant

pub check_stmts-loop-s-preserved : goal.check_stmts-loop-s-preserved
check_stmts-loop-s-preserved t c =
    let at = dropped c.args.ss.now c.loop-s.s-index c.s-item.result c.loop-s-test.true c.s-item.is in
    step_best (λ l. sts_faults (scope_of c.args.g) (sts_in l)) _ _ _ _ _ _ at refl c.in_ok-check_stmt.ensures ∙ c.loop-s.invariant

pub check_stmt-returns-in_ok-check_stmts-in-If : goal.check_stmt-returns-in_ok-check_stmts-in-If
check_stmt-returns-in_ok-check_stmts-in-If t c =
    if_best (scope_of c.args.g) _ _ _ _ _ _ _ _ _ c.in-If.is c.deref-in-If.ensures.value c.deref-in-If-2.ensures.value c.in_ok-check_arms-in-If.ensures c.in_ok-check_stmts-in-If.ensures

pub check_stmt-returns-in_ok-check_stmts-in-While : goal.check_stmt-returns-in_ok-check_stmts-in-While
check_stmt-returns-in_ok-check_stmts-in-While t c =
    while_best (scope_of c.args.g) _ _ _ _ _ _ _ _ _ _ _ _ c.in-While.is c.deref-in-While.ensures.value c.deref-in-While-2.ensures.value c.in_ok-want_guard-in-While.ensures c.in_ok-want_clauses-in-While.ensures c.in_ok-check_stmts-in-While.ensures

pub check_stmts-returns : goal.check_stmts-returns
check_stmts-returns t c =
    sym (at_drop_all (λ l. first_of (best_of c.loop-s.best) (sts_faults (scope_of c.args.g) (sts_in l))) c.args.ss.now c.loop-s.s-index c.loop-s-test.false) ∙ c.loop-s.invariant

pub check_arms-returns : goal.check_arms-returns
check_arms-returns t c =
    sym (at_drop_all (λ l. first_of (best_of c.loop-arm.best) (arms_faults (scope_of c.args.g) (arms_from (map arm_view l)))) c.args.arms.now c.loop-arm.arm-index c.loop-arm-test.false) ∙ c.loop-arm.invariant
