use Rattle.std.proofs.Common.{◌≡◌, ap, refl, ◌∙◌, sym, arith}
use Rattle.bg_ast.specs.declared.resolved.Stmt.TheVariants as stmt
use Rattle.bg_ast.specs.Views.{st_of, sts_in}
use Rattle.bg_guess.specs.Claims.{subjects_of}
use Rattle.bg_guess.specs.Loops.{size, st_guesses, guessed_st, guessed_sts}
use Rattle.bg_guess.proofs.Forms.{count-If, count-While, guessed-If, guessed-While}
use Rattle.bg_guess.proofs.Steps.{sts_next, arms_next, unvisited, sts_end, arms_end}
use Rattle.bg_guess.proofs.loops.+guess_stmts.Goals as goal

pub guess_arms-loop-i-preserved : goal.guess_arms-loop-i-preserved
guess_arms-loop-i-preserved t c =
    let i = c.loop-i.invariant in
    let x = c.in_ok-at.ensures in
    let long = i.rest.0 in
    let end = c.len-i-end.ensures in
    let test = c.loop-i-test.true in
    let step =
    arms_next c.args.desk.above (subjects_of c.args.s.now) c.loop-i.arms.items c.loop-i.i c.index_mut.result.now _ c.loop-i.at c.in_ok-at.at (omega (arith, long, end, test)) c.index_mut.ensures.value refl x.0 x.1
    in
    record {
      guessed = step.0 ∙ i.guessed;
      number = step.1 ∙ i.number;
      rest = unvisited c.loop-i.arms.items c.args.arms.now.items c.loop-i.i _ i.rest;
    }

pub guess_arms-returns : goal.guess_arms-returns
guess_arms-returns t c =
    let i = c.loop-i.invariant in
    let long = i.rest.0 in
    let end = c.len-i-end.ensures in
    let test = c.loop-i-test.false in
    arms_end c.args.desk.above (subjects_of c.args.s.now) c.loop-i.arms.items c.loop-i.i c.loop-i.at _ _ (omega (arith, long, end, test)) i.guessed i.number

pub guess_stmts-loop-i-preserved : goal.guess_stmts-loop-i-preserved
guess_stmts-loop-i-preserved t c =
    let i = c.loop-i.invariant in
    let x = c.in_ok-at.ensures in
    let long = i.rest.0 in
    let end = c.len-i-end.ensures in
    let test = c.loop-i-test.true in
    let step =
    sts_next c.args.desk.above (subjects_of c.args.s.now) c.loop-i.ss.items c.loop-i.i c.index_mut.result.now c.guess_stmt.new.a c.loop-i.at c.in_ok-at.at (omega (arith, long, end, test)) c.index_mut.ensures.value x.0 x.1
    in
    record {
      guessed = step.0 ∙ i.guessed;
      number = step.1 ∙ i.number;
      rest = unvisited c.loop-i.ss.items c.args.ss.now.items c.loop-i.i c.guess_stmt.new.a i.rest;
    }

pub guess_stmts-returns : goal.guess_stmts-returns
guess_stmts-returns t c =
    let i = c.loop-i.invariant in
    let long = i.rest.0 in
    let end = c.len-i-end.ensures in
    let test = c.loop-i-test.false in
    sts_end c.args.desk.above (subjects_of c.args.s.now) c.loop-i.ss.items c.loop-i.i c.loop-i.at _ _ (omega (arith, long, end, test)) i.guessed i.number

pub guess_stmt-returns-in_ok-last-in-If : goal.guess_stmt-returns-in_ok-last-in-If
guess_stmt-returns-in_ok-last-in-If t c =
    let above = c.args.desk.above in
    let s = subjects_of c.args.s.now in
    let b = c.args.next in
    let x = c.in_ok-behind-in-If.ensures in
    let h = c.in_ok-last-in-If.ensures in
    let is : c.args.a.now ≡ stmt.If c.in-If.number c.in-If.arms c.in-If.otherwise = sym c.replace.ensures.value ∙ c.in-If.is in (
      guessed-If above b s c.in-If.number c.in-If.arms c.guess_arms.new.arms c.in-If.otherwise c.guess_stmts.new.ss x.0 (h.0 ∙ ap (λ k. guessed_sts above s k (sts_in c.in-If.otherwise.items)) x.1)
          ∙ ap (λ a. guessed_st above s b (st_of a)) (sym is),
      let one = h.1 in
          let two = x.1 in
          let three = ap (λ a. st_guesses (size s) (st_of a)) is in
          let four = count-If (size s) c.in-If.number c.in-If.arms c.in-If.otherwise in
          omega (arith, one, two, three, four),
    )

pub guess_stmt-returns-in_ok-last-in-While : goal.guess_stmt-returns-in_ok-last-in-While
guess_stmt-returns-in_ok-last-in-While t c =
    let above = c.args.desk.above in
    let s = subjects_of c.args.s.now in
    let b = c.args.next in
    let x = c.in_ok-inside-in-While.ensures in
    let h = c.in_ok-last-in-While.ensures in
    let is : c.args.a.now ≡ stmt.While c.in-While.number c.in-While.pos c.in-While.guard c.in-While.invariants c.in-While.body = sym c.replace.ensures.value ∙ c.in-While.is in (
      guessed-While above b s c.in-While.number c.in-While.pos c.in-While.guard c.in-While.invariants c.push_guesses.new.out c.in-While.body c.guess_stmts-in-While.new.ss x.0 (h.0 ∙ ap (λ k. guessed_sts above s k (sts_in c.in-While.body.items)) x.1)
          ∙ ap (λ a. guessed_st above s b (st_of a)) (sym is),
      let one = h.1 in
          let two = x.1 in
          let three = ap (λ a. st_guesses (size s) (st_of a)) is in
          let four = count-While (size s) c.in-While.number c.in-While.pos c.in-While.guard c.in-While.invariants c.in-While.body in
          omega (arith, one, two, three, four),
    )
