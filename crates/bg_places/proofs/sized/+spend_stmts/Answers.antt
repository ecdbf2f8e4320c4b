use Rattle.std.proofs.Common.{arith}
use Rattle.bg_places.proofs.SizedForms.{nodes-If, nodes-While}
use Rattle.bg_places.proofs.sized.+spend_stmts.Goals as goal

pub spend_stmt-returns-in-If : goal.spend_stmt-returns-in-If
spend_stmt-returns-in-If t c =
    let h = rw (c.deref-in-If.ensures.value) at c.spend_arms.ensures in
    let k = rw (c.deref-in-If-2.ensures.value) at c.spend_stmts.ensures in
    rw (c.in-If.is, nodes-If c.args.sizes.now c.in-If.field-0 c.in-If.arms c.in-If.otherwise) (omega (arith, h, k))

pub spend_stmt-returns-in-While : goal.spend_stmt-returns-in-While
spend_stmt-returns-in-While t c =
    let h = rw (c.deref-in-While.ensures.value) at c.spend_clauses.ensures in
    let k = rw (c.deref-in-While-2.ensures.value) at c.spend_stmts-in-While.ensures in
    rw (c.in-While.is, nodes-While c.args.sizes.now c.in-While.field-0 c.in-While.field-1 c.in-While.guard c.in-While.invariants c.in-While.body)
    (omega (arith, h, k, c.spend_guard.ensures))
