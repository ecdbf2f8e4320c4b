use Rattle.std.proofs.Common.{List, map, ap, ◌∙◌, arith}
use Rattle.std.proofs.lemmas.Result.{on_ok_weaker}
use Rattle.bg_ast.specs.declared.resolved.Clause.{Clause}
use Rattle.bg_ast.specs.declared.resolved.Arm.{Arm}
use Rattle.bg_ast.specs.declared.resolved.Stmt.{Stmt}
use Rattle.bg_ast.specs.Views.{st_of, sts_in, arms_from, arm_view, clause_of}
use Rattle.bg_places.specs.Counts.{st_nodes, sts_nodes, arms_nodes, clause_nodes}
use Rattle.bg_opened.specs.Written.{opened_st, opened_sts, opened_arms, opened_clause}
use Rattle.bg_expanded.proofs.Counted.{counted-If, counted-While}
use Rattle.bg_expanded.proofs.sized.+add_stmts.Goals as goal

pub add_stmt-returns-in_ok-add_arms-in-If : goal.add_stmt-returns-in_ok-add_arms-in-If
add_stmt-returns-in_ok-add_arms-in-If t c =
    let sizes = c.args.sizes.now in
    on_ok_weaker c.add_stmts.result (λ h o k.
    let form = ap (λ (s : Stmt). st_nodes sizes (opened_st o (st_of s))) c.in-If.is ∙ counted-If sizes o c.in-If.field-0 c.in-If.arms c.in-If.otherwise in
    let a = ap (λ (l : List Arm). arms_nodes sizes (opened_arms o (arms_from (map arm_view l)))) c.deref-in-If.ensures.value in
    let b = ap (λ (l : List Stmt). sts_nodes sizes (opened_sts o (sts_in l))) c.deref-in-If-2.ensures.value in
    let first = c.in_ok-add_arms-in-If.ensures o k in
    let second = h o k in
    omega (arith, first, second, form)) c.add_stmts.ensures

pub add_stmt-returns-in_ok-add_clauses-in-While : goal.add_stmt-returns-in_ok-add_clauses-in-While
add_stmt-returns-in_ok-add_clauses-in-While t c =
    let sizes = c.args.sizes.now in
    on_ok_weaker c.add_stmts-in-While.result (λ h o k.
    let form = ap (λ (s : Stmt). st_nodes sizes (opened_st o (st_of s))) c.in-While.is ∙ counted-While sizes o c.in-While.field-0 c.in-While.field-1 c.in-While.guard c.in-While.invariants c.in-While.body in
    let a = ap (λ (l : List Clause). clause_nodes (map (opened_clause o) (map clause_of l))) c.deref-in-While.ensures.value in
    let b = ap (λ (l : List Stmt). sts_nodes sizes (opened_sts o (sts_in l))) c.deref-in-While-2.ensures.value in
    let first = c.in_ok-add_guard-in-While.ensures o k in
    let second = c.in_ok-add_clauses-in-While.ensures o k in
    let third = h o k in
    omega (arith, first, second, third, form)) c.add_stmts-in-While.ensures
