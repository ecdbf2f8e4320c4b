use Rattle.std.proofs.Common.{◌++◌, map, ap, sym, refl, ◌∙◌, arith}
use Rattle.std.proofs.lemmas.Result.{IfOk-weaker}
use Rattle.bg_text.specs.Views as v
use Rattle.bg_ast.specs.Views as u
use Rattle.bg_keep.specs.Guesses.{names_of}
use Rattle.bg_keep.specs.Told as s
use Rattle.bg_keep.proofs.Rows.{unvisited}
use Rattle.bg_keep.proofs.Forms.{kept-If, kept-IfElse, kept-While}
use Rattle.bg_keep.proofs.Turns.{sts_turn, sts_end, arms_turn, arms_end}
use Rattle.bg_keep.proofs.stmts.+keep_stmts.Goals as goal

pub keep_arms-loop-i-preserved : goal.keep_arms-loop-i-preserved
keep_arms-loop-i-preserved t c =
    let i = c.loop-i.invariant in
    let long = i.rest.0 in
    let end = c.len-i-end.ensures in
    let test = c.loop-i-test.true in
    record {
      told =
          arms_turn c.args.set.now (names_of c.args.names.now) c.args.told.now c.loop-i.arms.items c.loop-i.i c.index_mut.result.now _ (omega (arith, long, end, test)) c.index_mut.ensures.value refl (c.in_ok-keep_block.ensures ∙ ap (s.told_sts c.args.set.now (names_of c.args.names.now) (v.sts_in c.index_mut.result.now.block.items)) c.body_at.ensures)
          ∙ i.told;
      rest = unvisited c.loop-i.arms.items c.args.arms.now.items c.loop-i.i _ i.rest;
    }

pub keep_arms-returns : goal.keep_arms-returns
keep_arms-returns t c =
    let i = c.loop-i.invariant in
    let long = i.rest.0 in
    let end = c.len-i-end.ensures in
    let test = c.loop-i-test.false in
    arms_end c.args.set.now (names_of c.args.names.now) c.args.told.now c.loop-i.arms.items c.loop-i.i _ (omega (arith, long, end, test)) i.told

pub kept_stmts-loop-i-preserved : goal.kept_stmts-loop-i-preserved
kept_stmts-loop-i-preserved t c =
    let i = c.loop-i.invariant in
    let long = c.loop-i.auto.ss in
    let least = c.min-i-end.ensures in
    let lt = c.loop-i-test.true in
    record {
      told =
          sts_turn
          c.args.set.now (names_of c.args.names.now)
          c.args.told.now
          (map v.st_of c.loop-i.made.items)
          (map v.st_of c.push_stmt.new.out.items)
          c.loop-i.ss
          c.loop-i.i
          c.index-told-i.result
          c.index-ss-i.result
          c.push_stmt.new.a
          _
          (omega (arith, lt, least, long))
          (omega (arith, lt, least))
          c.index-ss-i.is
          c.index-told-i.is
          i.told
          (c.in_ok-push_stmt.ensures ∙ ap (λ x. map v.st_of c.loop-i.made.items ++ s.told_st c.args.set.now (names_of c.args.names.now) (v.st_of x) (u.st_of c.index-told-i.result)) (sym c.index-ss-i.is));
      rest = unvisited c.loop-i.ss c.args.ss.now c.loop-i.i c.push_stmt.new.a i.rest;
    }

pub kept_stmts-returns : goal.kept_stmts-returns
kept_stmts-returns t c =
    let i = c.loop-i.invariant in
    let long = c.loop-i.auto.ss in
    let least = c.min-i-end.ensures in
    let test = c.loop-i-test.false in
    sts_end c.args.set.now (names_of c.args.names.now) c.args.told.now (map v.st_of c.loop-i.made.items) c.loop-i.ss c.loop-i.i _ (λ lt. omega (arith, test, least, long, lt)) i.told

pub push_stmt-returns-in_ok-keep_arms-in-If : goal.push_stmt-returns-in_ok-keep_arms-in-If
push_stmt-returns-in_ok-keep_arms-in-If t c =
    IfOk-weaker
    c.push.result
    _
    _
    (λ x h. h ∙ ap (λ l. map v.st_of c.args.out.now.items ++ l) (kept-If c.args.set.now (names_of c.args.names.now) c.args.a.now (u.st_of c.args.b.now) c.in-If.pos c.in-If.arms c.keep_arms.new.arms c.in-If.arms.items _ (sym c.replace.ensures.value ∙ c.in-If.is) c.in_ok-keep_arms-in-If.ensures refl c.arms_in.ensures))
    c.push.ensures

pub push_stmt-returns-in_ok-keep_block-in-IfElse : goal.push_stmt-returns-in_ok-keep_block-in-IfElse
push_stmt-returns-in_ok-keep_block-in-IfElse t c =
    IfOk-weaker
    c.push-in-IfElse.result
    _
    _
    (λ x h. h ∙ ap (λ l. map v.st_of c.args.out.now.items ++ l) (kept-IfElse c.args.set.now (names_of c.args.names.now) c.args.a.now (u.st_of c.args.b.now) c.in-IfElse.pos c.in-IfElse.arms c.keep_arms-in-IfElse.new.arms c.in-IfElse.otherwise c.keep_block.new.ss c.in-IfElse.arms.items c.in-IfElse.otherwise.items _ _ (sym c.replace.ensures.value ∙ c.in-IfElse.is) c.in_ok-keep_arms-in-IfElse.ensures refl c.arms_in-in-IfElse.ensures c.in_ok-keep_block-in-IfElse.ensures refl c.block_in.ensures))
    c.push-in-IfElse.ensures

pub push_stmt-returns-in_ok-keep_block-in-While : goal.push_stmt-returns-in_ok-keep_block-in-While
push_stmt-returns-in_ok-keep_block-in-While t c =
    IfOk-weaker
    c.push-in-While.result
    _
    _
    (λ x h. h ∙ ap (λ l. map v.st_of c.args.out.now.items ++ l) (kept-While c.args.set.now (names_of c.args.names.now) c.args.a.now (u.st_of c.args.b.now) c.in-While.pos c.in-While.guard c.in-While.invariants c.in_ok-invariants-in-While.invariants c.in-While.body c.keep_block-in-While.new.ss _ c.in-While.body.items _ _ (sym c.replace.ensures.value ∙ c.in-While.is) c.in_ok-invariants-in-While.ensures c.deref_mut.ensures.value c.invariants_in.ensures c.in_ok-keep_block-in-While.ensures refl c.block_in-in-While.ensures))
    c.push-in-While.ensures
