use Rattle.std.proofs.Common.{◌+◌, ap, ◌∙◌, refl, true}
use Rattle.bg_text.specs.Views.{guard_of}
use Rattle.bg_print.specs.Docs.{text, each}
use Rattle.bg_print.specs.Stmts.{else_if, arm_doc}
use Rattle.bg_print.specs.Rows.{stmt_doc, tree_arms_from}
use Rattle.bg_print.proofs.Rows.{stmt_doc-If, stmt_doc-IfElse, stmt_doc-While}
use Rattle.bg_print.proofs.Steps.{by_form, four, six}
use Rattle.bg_print.proofs.Loops.{one_more, two_more, none_left}
use Rattle.bg_print.proofs.stmts.+print_stmt.Goals as goal

pub put_stmt-returns-in_ok-put_if-in-If : goal.put_stmt-returns-in_ok-put_if-in-If
put_stmt-returns-in_ok-put_if-in-If t c =
    by_form _ _ _ _ (ap (stmt_doc c.args.n) c.in-If.is ∙ stmt_doc-If c.args.n c.in-If.field-0 c.in-If.arms _ c.deref-in-If.ensures.value) c.in_ok-put_if-in-If.ensures

pub put_stmt-returns-in_ok-extend_from_slice-in-IfElse-3 : goal.put_stmt-returns-in_ok-extend_from_slice-in-IfElse-3
put_stmt-returns-in_ok-extend_from_slice-in-IfElse-3 t c =
    by_form _ _ _ _ (ap (stmt_doc c.args.n) c.in-IfElse.is ∙ stmt_doc-IfElse c.args.n c.in-IfElse.field-0 c.in-IfElse.arms c.in-IfElse.stmts _ _ c.deref-in-IfElse.ensures.value c.deref-in-IfElse-2.ensures.value)
    (six _ _ _ _ _ _ _ _ _ _ _ _ _ c.in_ok-put_margin-in-IfElse.ensures c.in_ok-extend_from_slice-in-IfElse.ensures.items c.in_ok-put_arms-in-IfElse.ensures c.in_ok-extend_from_slice-in-IfElse-2.ensures.items c.in_ok-put_block-in-IfElse.ensures c.in_ok-extend_from_slice-in-IfElse-3.ensures.items)

pub put_stmt-returns-in_ok-extend_from_slice-in-While : goal.put_stmt-returns-in_ok-extend_from_slice-in-While
put_stmt-returns-in_ok-extend_from_slice-in-While t c =
    by_form _ _ _ _ (ap (stmt_doc c.args.n) c.in-While.is ∙ stmt_doc-While c.args.n c.in-While.field-0 c.in-While.guard c.in-While.clauses c.in-While.stmts _ _ c.deref-in-While.ensures.value c.deref-in-While-2.ensures.value)
    (four _ _ _ _ _ _ _ _ _ c.in_ok-put_while-in-While.ensures c.in_ok-put_margin-in-While.ensures c.in_ok-put_block-in-While.ensures c.in_ok-extend_from_slice-in-While.ensures.items)

pub put_list-loop-stmt-preserved : goal.put_list-loop-stmt-preserved
put_list-loop-stmt-preserved t c = one_more (λ l. text (each (stmt_doc c.args.n) l)) (λ l. text (each (stmt_doc c.args.n) l)) c.args.stmts.now c.loop-stmt.stmt-index c.stmt-item.result (text ((stmt_doc c.args.n) c.stmt-item.result)) _ _ _ (λ ys. refl) c.loop-stmt-test.true c.stmt-item.is c.in_ok-put_stmt.ensures c.loop-stmt.invariant

pub put_list-returns : goal.put_list-returns
put_list-returns t c = none_left (λ l. text (each (stmt_doc c.args.n) l)) c.args.stmts.now c.loop-stmt.stmt-index _ _ refl c.loop-stmt-test.false c.loop-stmt.invariant

pub put_arms-loop-arm-preserved : goal.put_arms-loop-arm-preserved
put_arms-loop-arm-preserved t c = two_more (λ l. text (tree_arms_from c.loop-arm.behind c.args.n l)) (λ l. text (tree_arms_from true c.args.n l)) c.args.arms.now c.loop-arm.arm-index c.arm-item.result (text (else_if c.loop-arm.behind)) (text (arm_doc c.args.n (guard_of c.arm-item.result.guard) (each (stmt_doc (c.args.n + 2)) c.arm-item.result.block.items))) _ _ _ _ (λ ys. refl) c.loop-arm-test.true c.arm-item.is c.in_ok-put_else_if.ensures c.in_ok-put_arm.ensures c.loop-arm.invariant

pub put_arms-returns : goal.put_arms-returns
put_arms-returns t c = none_left (λ l. text (tree_arms_from c.loop-arm.behind c.args.n l)) c.args.arms.now c.loop-arm.arm-index _ _ refl c.loop-arm-test.false c.loop-arm.invariant
