use Rattle.std.proofs.Common.{◌≡◌, ◌+◌, ◌-◌, ◌∷◌, map, drop, sym, ap, ◌∙◌, arith}
use Rattle.std.proofs.lemmas.List.{at_drop_all, at_drop_more}
use Rattle.bg_ast.specs.Views.{st_of, sts_in, arms_from, arm_view}
use Rattle.bg_guess.specs.Loops.{st_guesses, sts_guesses, arms_guesses}
use Rattle.bg_guess.proofs.Forms.{count-If, count-While}
use Rattle.bg_guess.proofs.counts.+pass_stmts.Goals as goal

pub pass_stmt-returns-in-If : goal.pass_stmt-returns-in-If
pass_stmt-returns-in-If t c =
    let h = rw (c.deref.ensures.value) at c.pass_arms.ensures in
    let k = rw (c.deref-in-If.ensures.value) at c.pass_stmts.ensures in
    rw (c.in-If.is, count-If c.args.size c.in-If.field-0 c.in-If.arms c.in-If.otherwise) (omega (arith, h, k))

pub pass_stmt-returns-in-While : goal.pass_stmt-returns-in-While
pass_stmt-returns-in-While t c =
    let k = rw (c.deref-in-While.ensures.value) at c.pass_stmts-in-While.ensures in
    rw (c.in-While.is, count-While c.args.size c.in-While.field-0 c.in-While.field-1 c.in-While.field-2 c.in-While.field-3 c.in-While.body)
    (omega (arith, k, c.saturating_sub.ensures))

pub pass_arms-loop-a-preserved : goal.pass_arms-loop-a-preserved
pass_arms-loop-a-preserved t c =
    let n = c.args.size in
    let xs = c.args.arms.now in
    let i = c.loop-a.a-index in
    let a = c.a-item.result in
    let here : arms_guesses n (arms_from (map arm_view (drop i xs))) ≡ sts_guesses n (sts_in a.body.items) + arms_guesses n (arms_from (map arm_view (drop (i + 1) xs))) =
    at_drop_more (λ l. arms_guesses n (arms_from (map arm_view l))) xs i a c.loop-a-test.true ∙ ap (λ y. arms_guesses n (arms_from (map arm_view (y ∷ drop (i + 1) xs)))) (sym c.a-item.is) in
    let passed = c.pass_stmts-rest.ensures ∙ ap (λ l. c.loop-a.rest - sts_guesses n (sts_in l)) c.deref.ensures.value in
    let known = c.loop-a.invariant in
    omega (arith, here, passed, known)

pub pass_arms-returns : goal.pass_arms-returns
pass_arms-returns t c =
    let none : arms_guesses c.args.size (arms_from (map arm_view (drop c.loop-a.a-index c.args.arms.now))) ≡ 0 = at_drop_all (λ l. arms_guesses c.args.size (arms_from (map arm_view l))) c.args.arms.now c.loop-a.a-index c.loop-a-test.false in
    let known = c.loop-a.invariant in
    omega (arith, none, known)

pub pass_stmts-loop-a-preserved : goal.pass_stmts-loop-a-preserved
pass_stmts-loop-a-preserved t c =
    let n = c.args.size in
    let xs = c.args.ss.now in
    let i = c.loop-a.a-index in
    let a = c.a-item.result in
    let here : sts_guesses n (sts_in (drop i xs)) ≡ st_guesses n (st_of a) + sts_guesses n (sts_in (drop (i + 1) xs)) =
    at_drop_more (λ l. sts_guesses n (sts_in l)) xs i a c.loop-a-test.true ∙ ap (λ y. sts_guesses n (sts_in (y ∷ drop (i + 1) xs))) (sym c.a-item.is) in
    let passed = c.pass_stmt-rest.ensures in
    let known = c.loop-a.invariant in
    omega (arith, here, passed, known)

pub pass_stmts-returns : goal.pass_stmts-returns
pass_stmts-returns t c =
    let none : sts_guesses c.args.size (sts_in (drop c.loop-a.a-index c.args.ss.now)) ≡ 0 = at_drop_all (λ l. sts_guesses c.args.size (sts_in l)) c.args.ss.now c.loop-a.a-index c.loop-a-test.false in
    let known = c.loop-a.invariant in
    omega (arith, none, known)
