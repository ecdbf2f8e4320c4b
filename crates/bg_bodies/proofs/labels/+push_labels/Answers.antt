use Rattle.std.proofs.Common.{◌++◌, map, refl, sym, ap, ◌∙◌, append_assoc, append-nil}
use Rattle.std.proofs.lemmas.List.{at_drop_all}
use Rattle.bg_text.specs.Views as v
use Rattle.bg_bodies.specs.Bodies.{st_labels, sts_labels, arms_labels}
use Rattle.bg_names.specs.Views.{id_in}
use Rattle.bg_bodies.specs.Views.{tree_sts, tree_arms}
use Rattle.bg_bodies.proofs.LabelForms.{labels-If, labels-IfElse, labels-While, labels_step}
use Rattle.bg_bodies.proofs.labels.+push_labels.Goals as goal

pub of_stmt-returns-in-If-clause-ok : goal.of_stmt-returns-in-If-clause-ok
of_stmt-returns-in-If-clause-ok t c = rw (c.in-If.is, labels-If c.in-If.field-0 c.in-If.arms, sym c.deref.ensures.value) c.of_arms.ensures.ok

pub of_stmt-returns-in_ok-of_arms-in-IfElse-clause-ok : goal.of_stmt-returns-in_ok-of_arms-in-IfElse-clause-ok
of_stmt-returns-in_ok-of_arms-in-IfElse-clause-ok t c =
    rw (
      c.in-IfElse.is,
      labels-IfElse c.in-IfElse.field-0 c.in-IfElse.arms c.in-IfElse.ss,
      sym c.deref-in-IfElse.ensures.value,
      sym c.deref-in-IfElse-2.ensures.value,
      sym (append_assoc (map id_in c.args.out.now.items) (arms_labels (tree_arms c.deref-in-IfElse.result.now)) (sts_labels (tree_sts c.deref-in-IfElse-2.result.now))),
      sym c.in_ok-of_arms-in-IfElse.ensures.ok,
    )
    c.push_labels.ensures.ok

pub of_stmt-returns-in-While-clause-ok : goal.of_stmt-returns-in-While-clause-ok
of_stmt-returns-in-While-clause-ok t c = rw (c.in-While.is, labels-While c.in-While.field-0 c.in-While.field-1 c.in-While.field-2 c.in-While.ss, sym c.deref-in-While.ensures.value) c.push_labels-in-While.ensures.ok

pub of_arms-loop-a-preserved : goal.of_arms-loop-a-preserved
of_arms-loop-a-preserved t c =
    let a = c.a-item.result in
    let old = map id_in c.loop-a.out.items in
    labels_step (λ l. arms_labels (tree_arms l)) (sts_labels (tree_sts a.block.items)) old _ c.args.arms.now c.loop-a.a-index a _ c.loop-a-test.true c.a-item.is refl c.loop-a.invariant (c.in_ok-push_labels.ensures.ok ∙ ap (λ l. old ++ sts_labels (tree_sts l)) c.deref.ensures.value)

pub push_labels-loop-s-preserved : goal.push_labels-loop-s-preserved
push_labels-loop-s-preserved t c =
    labels_step (λ l. sts_labels (tree_sts l)) (st_labels (v.st_of c.s-item.result)) (map id_in c.loop-s.out.items) _ c.args.ss.now c.loop-s.s-index c.s-item.result _ c.loop-s-test.true c.s-item.is refl c.loop-s.invariant c.in_ok-of_stmt.ensures.ok

pub of_arms-returns-clause-ok : goal.of_arms-returns-clause-ok
of_arms-returns-clause-ok t c =
    let old = map id_in c.loop-a.out.items in
    sym (append-nil old) ∙ sym (at_drop_all (λ l. old ++ arms_labels (tree_arms l)) c.args.arms.now c.loop-a.a-index c.loop-a-test.false) ∙ c.loop-a.invariant

pub push_labels-returns-clause-ok : goal.push_labels-returns-clause-ok
push_labels-returns-clause-ok t c =
    let old = map id_in c.loop-s.out.items in
    sym (append-nil old) ∙ sym (at_drop_all (λ l. old ++ sts_labels (tree_sts l)) c.args.ss.now c.loop-s.s-index c.loop-s-test.false) ∙ c.loop-s.invariant
