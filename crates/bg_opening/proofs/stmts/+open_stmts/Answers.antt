use Rattle.std.proofs.Common.{map, sym, ap, ◌∙◌}
use Rattle.bg_ast.specs.Views.{ex_of, clause_of, target_of, arm_view, st_of}
use Rattle.bg_opened.specs.Written as w
use Rattle.bg_opening.specs.Desks.{opened_at}
use Rattle.bg_opening.proofs.Forms.{both}
use Rattle.bg_opening.proofs.Statements.{sts-are, stmt-Assign, stmt-If, stmt-While}
use Rattle.bg_opening.proofs.stmts.+open_stmts.Goals as goal

pub arm-returns : goal.arm-returns
arm-returns t c =
    let o = opened_at c.args.desk in
    let a = c.args.a.now in
    both (λ g ss. (g, ss)) c.in_ok-guard.ensures (sts-are o a.body.items c.in_ok-body.body.items (c.in_ok-body.ensures ∙ ap (λ l. map (w.opened_st o) (map st_of l)) c.deref.ensures.value))

pub stmt-returns-in_ok-es-in-Assign : goal.stmt-returns-in_ok-es-in-Assign
stmt-returns-in_ok-es-in-Assign t c =
    let o = opened_at c.args.desk in
    stmt-Assign o c.in-Assign.pos c.in-Assign.ts c.in-Assign.es c.in_ok-ts-in-Assign.ts c.in_ok-es-in-Assign.es (c.in_ok-ts-in-Assign.ensures ∙ ap (λ l. map (w.opened_target o) (map target_of l)) c.deref-in-Assign.ensures.value) (c.in_ok-es-in-Assign.ensures ∙ ap (λ l. map o (map ex_of l)) c.deref-in-Assign-2.ensures.value)
    ∙ ap (λ s. w.opened_st o (st_of s)) (sym c.in-Assign.is)

pub stmt-returns-in_ok-otherwise-in-If : goal.stmt-returns-in_ok-otherwise-in-If
stmt-returns-in_ok-otherwise-in-If t c =
    let o = opened_at c.args.desk in
    stmt-If o c.in-If.n c.in-If.arms c.in-If.otherwise c.in_ok-arms-in-If.arms c.in_ok-otherwise-in-If.otherwise (c.in_ok-arms-in-If.ensures ∙ ap (λ l. map (w.opened_arm o) (map arm_view l)) c.deref-in-If.ensures.value) (c.in_ok-otherwise-in-If.ensures ∙ ap (λ l. map (w.opened_st o) (map st_of l)) c.deref-in-If-2.ensures.value)
    ∙ ap (λ s. w.opened_st o (st_of s)) (sym c.in-If.is)

pub stmt-returns-in_ok-body-in-While : goal.stmt-returns-in_ok-body-in-While
stmt-returns-in_ok-body-in-While t c =
    let o = opened_at c.args.desk in
    stmt-While o c.in-While.n c.in-While.pos c.in-While.g c.in-While.invariants c.in-While.body c.in_ok-g-in-While.g c.in_ok-invariants-in-While.invariants c.in_ok-body-in-While.body c.in_ok-g-in-While.ensures (c.in_ok-invariants-in-While.ensures ∙ ap (λ l. map (w.opened_clause o) (map clause_of l)) c.deref-in-While.ensures.value) (c.in_ok-body-in-While.ensures ∙ ap (λ l. map (w.opened_st o) (map st_of l)) c.deref-in-While-2.ensures.value)
    ∙ ap (λ s. w.opened_st o (st_of s)) (sym c.in-While.is)
