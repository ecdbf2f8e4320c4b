use Rattle.std.proofs.Common.{◌+◌, ◌∷◌, map, drop, ap, ◌∙◌, sym}
use Rattle.std.proofs.lemmas.List.{at_drop_all, at_drop_more}
use Rattle.bg_ast.specs.Views.{st_of, sts_in, arms_from, arm_view}
use Rattle.bg_guess.specs.Calls.{mark_st, mark_sts, mark_arms, above_st, above_sts, above_arms}
use Rattle.bg_guess.proofs.CallForms.{mark-If, mark-While, above-If, above-While}
use Rattle.bg_guess.proofs.calls.+note_stmts.Goals as goal

pub note_stmt-returns-in-If-clause-called : goal.note_stmt-returns-in-If-clause-called
note_stmt-returns-in-If-clause-called t c =
    let h = rw (c.deref.ensures.value) at c.note_arms-inside.ensures.called in
    let k = rw (c.deref-in-If.ensures.value, h) at c.note_stmts.ensures.called in
    k ∙ sym (mark-If c.args.own c.args.called.now.items c.in-If.field-0 c.in-If.arms c.in-If.otherwise) ∙ ap (λ a. mark_st c.args.own (st_of a) c.args.called.now.items) (sym c.in-If.is)

pub note_stmt-returns-in-If-clause-above : goal.note_stmt-returns-in-If-clause-above
note_stmt-returns-in-If-clause-above t c =
    let h = rw (c.deref.ensures.value) at c.note_arms-inside.ensures.above in
    let k = rw (c.deref-in-If.ensures.value, h) at c.note_stmts.ensures.above in
    k ∙ sym (above-If c.args.most c.in-If.field-0 c.in-If.arms c.in-If.otherwise) ∙ ap (λ a. above_st c.args.most (st_of a)) (sym c.in-If.is)

pub note_stmt-returns-in-While-clause-called : goal.note_stmt-returns-in-While-clause-called
note_stmt-returns-in-While-clause-called t c =
    let k = rw (c.deref-in-While-2.ensures.value) at c.note_stmts-in-While.ensures.called in
    k ∙ sym (mark-While c.args.own c.args.called.now.items c.in-While.field-0 c.in-While.field-1 c.in-While.field-2 c.in-While.invariants c.in-While.body) ∙ ap (λ a. mark_st c.args.own (st_of a) c.args.called.now.items) (sym c.in-While.is)

pub note_stmt-returns-in-While-clause-above : goal.note_stmt-returns-in-While-clause-above
note_stmt-returns-in-While-clause-above t c =
    let h = rw (c.deref-in-While.ensures.value) at c.above-in-While.ensures in
    let k = rw (c.deref-in-While-2.ensures.value, h) at c.note_stmts-in-While.ensures.above in
    k ∙ sym (above-While c.args.most c.in-While.field-0 c.in-While.field-1 c.in-While.field-2 c.in-While.invariants c.in-While.body) ∙ ap (λ a. above_st c.args.most (st_of a)) (sym c.in-While.is)

pub note_arms-loop-a-preserved : goal.note_arms-loop-a-preserved
note_arms-loop-a-preserved t c =
    let own = c.args.own in
    let xs = c.args.arms.now in
    let i = c.loop-a.a-index in
    let a = c.a-item.result in
    let rest = drop (i + 1) xs in
    let marks = c.loop-a.called.items in
    let most = c.loop-a.at in
    record {
      called =
          ap (mark_arms own (arms_from (map arm_view rest))) (c.note_stmts-at.ensures.called ∙ ap (λ l. mark_sts own (sts_in l) marks) c.deref.ensures.value)
          ∙ sym (at_drop_more (λ l. mark_arms own (arms_from (map arm_view l)) marks) xs i a c.loop-a-test.true ∙ ap (λ y. mark_arms own (arms_from (map arm_view (y ∷ rest))) marks) (sym c.a-item.is))
          ∙ c.loop-a.invariant.called;
      above =
          ap (λ n. above_arms n (arms_from (map arm_view rest))) (c.note_stmts-at.ensures.above ∙ ap (λ l. above_sts most (sts_in l)) c.deref.ensures.value)
          ∙ sym (at_drop_more (λ l. above_arms most (arms_from (map arm_view l))) xs i a c.loop-a-test.true ∙ ap (λ y. above_arms most (arms_from (map arm_view (y ∷ rest)))) (sym c.a-item.is))
          ∙ c.loop-a.invariant.above;
    }

pub note_arms-returns-clause-called : goal.note_arms-returns-clause-called
note_arms-returns-clause-called t c =
    sym (at_drop_all (λ l. mark_arms c.args.own (arms_from (map arm_view l)) c.loop-a.called.items) c.args.arms.now c.loop-a.a-index c.loop-a-test.false) ∙ c.loop-a.invariant.called

pub note_arms-returns-clause-above : goal.note_arms-returns-clause-above
note_arms-returns-clause-above t c =
    sym (at_drop_all (λ l. above_arms c.loop-a.at (arms_from (map arm_view l))) c.args.arms.now c.loop-a.a-index c.loop-a-test.false) ∙ c.loop-a.invariant.above

pub note_stmts-loop-a-preserved : goal.note_stmts-loop-a-preserved
note_stmts-loop-a-preserved t c =
    let own = c.args.own in
    let xs = c.args.ss.now in
    let i = c.loop-a.a-index in
    let a = c.a-item.result in
    let rest = drop (i + 1) xs in
    let marks = c.loop-a.called.items in
    let most = c.loop-a.at in
    record {
      called =
          ap (mark_sts own (sts_in rest)) c.note_stmt-at.ensures.called
          ∙ sym (at_drop_more (λ l. mark_sts own (sts_in l) marks) xs i a c.loop-a-test.true ∙ ap (λ y. mark_sts own (sts_in (y ∷ rest)) marks) (sym c.a-item.is))
          ∙ c.loop-a.invariant.called;
      above =
          ap (λ n. above_sts n (sts_in rest)) c.note_stmt-at.ensures.above
          ∙ sym (at_drop_more (λ l. above_sts most (sts_in l)) xs i a c.loop-a-test.true ∙ ap (λ y. above_sts most (sts_in (y ∷ rest))) (sym c.a-item.is))
          ∙ c.loop-a.invariant.above;
    }

pub note_stmts-returns-clause-called : goal.note_stmts-returns-clause-called
note_stmts-returns-clause-called t c =
    sym (at_drop_all (λ l. mark_sts c.args.own (sts_in l) c.loop-a.called.items) c.args.ss.now c.loop-a.a-index c.loop-a-test.false) ∙ c.loop-a.invariant.called

pub note_stmts-returns-clause-above : goal.note_stmts-returns-clause-above
note_stmts-returns-clause-above t c =
    sym (at_drop_all (λ l. above_sts c.loop-a.at (sts_in l)) c.args.ss.now c.loop-a.a-index c.loop-a-test.false) ∙ c.loop-a.invariant.above
