use Rattle.std.proofs.Common.{◌≡◌, ◌+◌, ◌-◌, map, length, sym, subst, ap, ◌∙◌, arith}
use Rattle.std.proofs.lemmas.List.{length-map}
use Rattle.std.proofs.lemmas.Result.{on_ok_weaker}
use Rattle.bg_ast.specs.Syntax as s
use Rattle.bg_ast.specs.Meaning as m
use Rattle.bg_ast.specs.Views.{program_of, st_of, sts_in, arms_from, arm_view, guard_of, clause_of, var_of, placed_of, target_of, exs_in}
use Rattle.bg_sense.specs.Flow.{Behind}
use Rattle.bg_flow.specs.Core.{Seq, Mark, Loop, desugar, head_of}
use Rattle.bg_blocks.specs.Views.{clauses_in, target_variable}
use Rattle.bg_blocks.specs.Emitted.{Emits, marked_at, marked_each}
use Rattle.bg_blocks.specs.EmittedViews.{state_of, EmitsBody, frame_of}
use Rattle.bg_blocks.proofs.Branching.{each_blocks, each_undo, each_closed}
use Rattle.bg_blocks.proofs.Reading.{long}
use Rattle.bg_blocks.proofs.Forms.{st-If, st-While}
use Rattle.bg_blocks.proofs.Sizes.{size_sts, size_at, size_arm, size_If, size_While}
use Rattle.bg_blocks.proofs.Bodies.{same_body, arm_emits, loop_emits, arms_step, arms_whole, sts_step}
use Rattle.bg_blocks.proofs.stmts.+stmts.Goals as goal

pub arm-stmts-requires : goal.arm-stmts-requires
arm-stmts-requires t c =
    let same = ap (λ l. size_sts (sts_in l)) c.deref.ensures.value in
    (omega (arith, same, c.decreases), c.requires)

pub arm-returns : goal.arm-returns
arm-returns t c =
    let p = program_of c.args.around.program.now in
    let e0 = c.args.state.now in
    let e1 = c.skip_side.new.state in
    let e2 = c.stmts.new.state in
    let here : length (state_of p e0).blocks ≡ c.len-from.result = omega (arith, long p e0, c.len-from.ensures, e0.blocks.ok.0) in
    let body : EmitsBody p c.args.around.frame (m.sts_of (sts_in c.args.a.now.body.items)) e1 e2 =
    subst (λ l. EmitsBody p c.args.around.frame (m.sts_of (sts_in l)) e1 e2) c.deref.ensures.value c.in_ok-stmts.ensures in
    on_ok_weaker c.decide.result
    (λ last before b rs n h l u x.
    let a = desugar (m.meaning_of p) (frame_of p rs) (m.sts_of (sts_in c.args.a.now.body.items)) in
    let skip = c.in_ok-skip_side.ensures p b before l u x in
    arm_emits p (m.guard_of (guard_of c.args.a.now.guard)) a b before e0 e1 e2 c.decide.new.state h x skip
    (body rs n)
    (last p a (state_of p e0) (state_of p e1) here (ap (λ s. length s.undo) skip ∙ u) (body rs n)))
    c.decide.ensures

pub branch-stmts-requires : goal.branch-stmts-requires
branch-stmts-requires t c = (omega (arith, c.decreases), c.requires)

pub branch-arm-requires : goal.branch-arm-requires
branch-arm-requires t c =
    let falls = size_arm c.args.arms.now (c.loop-i.i - 1) c.index-arms-i.result (omega (arith, c.loop-i.invariant.0, c.loop-i-test.true)) c.index-arms-i.is in
    (omega (arith, falls, c.decreases), c.requires)

pub branch-loop-i-preserved : goal.branch-loop-i-preserved
branch-loop-i-preserved t c =
    let p = program_of c.args.around.program.now in
    let e0 = c.args.state.now in
    let s0 = state_of p e0 in
    let i = c.loop-i.i in
    let j = c.loop-i.i - 1 in
    let before = marked_each c.args.number i s0 in
    let blocks : length before.blocks ≡ c.len-start.result = ap length (each_blocks c.args.number i s0) ∙ omega (arith, long p e0, c.len-start.ensures, e0.blocks.ok.0) in
    let undo : length before.undo ≡ c.len-first.result + j + 1 = let more = each_undo c.args.number i s0 in omega (arith, more, c.len-first.ensures, e0.marks.undo.ok.0, c.loop-i-test.true) in (
      omega (arith, c.loop-i.invariant.0),
      λ rs n.
          arms_step (m.meaning_of p) (frame_of p rs) c.args.number i j c.index-arms-i.result c.args.arms.now (m.sts_of (sts_in c.args.otherwise.now)) s0 (state_of p c.arm.new.state) (omega (arith, c.loop-i-test.true)) (omega (arith, c.loop-i.invariant.0, c.loop-i-test.true)) c.index-arms-i.is
          (c.in_ok-arm.ensures before _ rs n (each_closed c.args.number i j s0 (omega (arith, c.loop-i-test.true))) blocks undo (c.loop-i.invariant.1 rs n)),
    )

pub branch-returns : goal.branch-returns
branch-returns t c = λ rs n.
    let p = program_of c.args.around.program.now in
    let none : c.loop-i.i ≡ 0 = omega (arith, c.loop-i-test.false) in
    arms_whole (m.meaning_of p) (frame_of p rs) c.args.number c.loop-i.i c.args.arms.now (m.sts_of (sts_in c.args.otherwise.now)) (state_of p c.args.state.now) (state_of p c.loop-i.state) none (omega (arith, none)) (c.loop-i.invariant.1 rs n)

pub stmt-branch-around-requires : goal.stmt-branch-around-requires
stmt-branch-around-requires t c =
    let falls = size_If c.args.a.now c.in-If.n c.in-If.arms c.in-If.otherwise c.deref-in-If.result.now c.deref-in-If-2.result.now c.in-If.is c.deref-in-If.ensures.value c.deref-in-If-2.ensures.value in
    (omega (arith, falls, c.decreases), c.requires)

pub stmt-turns-requires : goal.stmt-turns-requires
stmt-turns-requires t c =
    let falls = size_While c.args.a.now c.in-While.n c.in-While.field-1 c.in-While.g c.in-While.is' c.in-While.body c.deref-in-While-2.result.now c.in-While.is c.deref-in-While-2.ensures.value in
    (omega (arith, falls, c.decreases), c.requires)

pub stmt-returns-in-Label : goal.stmt-returns-in-Label
stmt-returns-in-Label t c =
    let p = program_of c.args.around.program.now in
    on_ok_weaker c.label.result (λ h. same_body p c.args.around.frame _ _ c.args.state.now c.label.new.state (ap (λ a. m.st_of (st_of a)) c.in-Label.is) (h p c.args.around.frame)) c.label.ensures

pub stmt-returns-in-Assert : goal.stmt-returns-in-Assert
stmt-returns-in-Assert t c =
    let p = program_of c.args.around.program.now in
    on_ok_weaker c.assertion.result (λ h. same_body p c.args.around.frame _ _ c.args.state.now c.assertion.new.state (ap (λ a. m.st_of (st_of a)) c.in-Assert.is) (h p c.args.around.frame)) c.assertion.ensures

pub stmt-returns-in-Assume : goal.stmt-returns-in-Assume
stmt-returns-in-Assume t c =
    let p = program_of c.args.around.program.now in
    on_ok_weaker c.assumption.result (λ h. same_body p c.args.around.frame _ _ c.args.state.now c.assumption.new.state (ap (λ a. m.st_of (st_of a)) c.in-Assume.is) (h p c.args.around.frame)) c.assumption.ensures

pub stmt-returns-in-Havoc : goal.stmt-returns-in-Havoc
stmt-returns-in-Havoc t c =
    let p = program_of c.args.around.program.now in
    let is = ap (λ a. m.st_of (st_of a)) c.in-Havoc.is ∙ ap (λ l. s.Havoc (map m.variable_of (map placed_of l))) (sym c.deref.ensures.value) in
    on_ok_weaker c.havoc.result (λ h. same_body p c.args.around.frame _ _ c.args.state.now c.havoc.new.state is (h p c.args.around.frame)) c.havoc.ensures

pub stmt-returns-in-Assign : goal.stmt-returns-in-Assign
stmt-returns-in-Assign t c =
    let p = program_of c.args.around.program.now in
    let is =
    ap (λ a. m.st_of (st_of a)) c.in-Assign.is
    ∙ (ap (λ l. s.Assign (map target_variable (map target_of l)) (m.values_of (map target_of l) (exs_in c.in-Assign.es.items))) (sym c.deref-in-Assign.ensures.value)
    ∙ ap (λ l. s.Assign (map target_variable (map target_of c.deref-in-Assign.result.now)) (m.values_of (map target_of c.deref-in-Assign.result.now) (exs_in l))) (sym c.deref-in-Assign-2.ensures.value)) in
    on_ok_weaker c.assignment.result (λ h. same_body p c.args.around.frame _ _ c.args.state.now c.assignment.new.state is (h p c.args.around.frame)) c.assignment.ensures

pub stmt-returns-in-Invoke : goal.stmt-returns-in-Invoke
stmt-returns-in-Invoke t c =
    let p = program_of c.args.around.program.now in
    on_ok_weaker c.call.result (λ h. same_body p c.args.around.frame _ _ c.args.state.now c.call.new.state (ap (λ a. m.st_of (st_of a)) c.in-Invoke.is) (h c.args.around.frame)) c.call.ensures

pub stmt-returns-in-If : goal.stmt-returns-in-If
stmt-returns-in-If t c =
    let p = program_of c.args.around.program.now in
    let is =
    ap (λ a. m.st_of (st_of a)) c.in-If.is
    ∙ (st-If c.in-If.n c.in-If.arms c.in-If.otherwise
    ∙ (ap (λ l. m.arms_of c.in-If.n (arms_from (map arm_view l)) (m.sts_of (sts_in c.in-If.otherwise.items))) (sym c.deref-in-If.ensures.value)
    ∙ ap (λ l. m.arms_of c.in-If.n (arms_from (map arm_view c.deref-in-If.result.now)) (m.sts_of (sts_in l))) (sym c.deref-in-If-2.ensures.value))) in
    on_ok_weaker c.branch-around.result (λ h. same_body p c.args.around.frame _ _ c.args.state.now c.branch-around.new.state is h) c.branch-around.ensures

pub stmt-returns-in-While : goal.stmt-returns-in-While
stmt-returns-in-While t c =
    let p = program_of c.args.around.program.now in
    let g = m.guard_of (guard_of c.in-While.g) in
    let is =
    ap (λ a. m.st_of (st_of a)) c.in-While.is
    ∙ (st-While c.in-While.n c.in-While.field-1 c.in-While.g c.in-While.is' c.in-While.body
    ∙ (ap (λ l. s.While c.in-While.n g (map m.clause_of (map clause_of l)) (m.sts_of (sts_in c.in-While.body.items))) (sym c.deref-in-While.ensures.value)
    ∙ ap (λ l. s.While c.in-While.n g (map m.clause_of (map clause_of c.deref-in-While.result.now)) (m.sts_of (sts_in l))) (sym c.deref-in-While-2.ensures.value))) in
    on_ok_weaker c.turns.result (λ h. same_body p c.args.around.frame _ _ c.args.state.now c.turns.new.state is h) c.turns.ensures

pub stmt-returns-in-Break : goal.stmt-returns-in-Break
stmt-returns-in-Break t c =
    let p = program_of c.args.around.program.now in
    on_ok_weaker c.leave.result (λ h. same_body p c.args.around.frame _ _ c.args.state.now c.leave.new.state (ap (λ a. m.st_of (st_of a)) c.in-Break.is) (h p c.args.around.frame)) c.leave.ensures

pub stmt-returns-in-Goto : goal.stmt-returns-in-Goto
stmt-returns-in-Goto t c =
    let p = program_of c.args.around.program.now in
    let is = ap (λ a. m.st_of (st_of a)) c.in-Goto.is ∙ ap s.Goto (sym c.deref-in-Goto.ensures.value) in
    on_ok_weaker c.jump.result (λ h. same_body p c.args.around.frame _ _ c.args.state.now c.jump.new.state is (h p c.args.around.frame)) c.jump.ensures

pub stmt-returns-in-Return : goal.stmt-returns-in-Return
stmt-returns-in-Return t c =
    let p = program_of c.args.around.program.now in
    on_ok_weaker c.finish.result (λ h. same_body p c.args.around.frame _ _ c.args.state.now c.finish.new.state (ap (λ a. m.st_of (st_of a)) c.in-Return.is) (h p c.args.around.frame)) c.finish.ensures

pub stmts-stmt-requires : goal.stmts-stmt-requires
stmts-stmt-requires t c =
    let falls = size_at c.args.ss.now (c.loop-i.i - 1) c.index-ss-i.result (omega (arith, c.loop-i.invariant.0, c.loop-i-test.true)) c.index-ss-i.is in
    (omega (arith, falls, c.decreases), c.requires)

pub stmts-loop-i-preserved : goal.stmts-loop-i-preserved
stmts-loop-i-preserved t c =
    let p = program_of c.args.around.program.now in (
      omega (arith, c.loop-i.invariant.0),
      λ rs n.
          sts_step (m.meaning_of p) (frame_of p rs) c.args.ss.now c.loop-i.i (c.loop-i.i - 1) c.index-ss-i.result (state_of p c.args.state.now) (state_of p c.loop-i.state) (state_of p c.stmt.new.state) (omega (arith, c.loop-i-test.true)) (omega (arith, c.loop-i.invariant.0, c.loop-i-test.true)) c.index-ss-i.is (c.loop-i.invariant.1 rs n) (c.in_ok-stmt.ensures rs n),
    )

pub turns-stmts-requires : goal.turns-stmts-requires
turns-stmts-requires t c = (omega (arith, c.decreases), c.requires)

pub turns-returns : goal.turns-returns
turns-returns t c =
    let p = program_of c.args.around.program.now in
    let e1 = c.mark_behind.new.state in
    let e2 = c.turn_of_loop.new.state in
    let e3 = c.stmts.new.state in
    let g = m.guard_of (guard_of c.args.guard.now) in
    let is = clauses_in c.args.invariants.now in
    let xs = map var_of c.in_ok-forgotten.forgotten.items in
    let blocks : length (state_of p e1).blocks ≡ c.len-start.result = omega (arith, long p e1, c.len-start.ensures, e1.blocks.ok.0) in
    let undo : length (state_of p e1).undo ≡ c.len-first.result = omega (arith, c.len-first.ensures, e1.marks.undo.ok.0) in
    on_ok_weaker c.close_loop.result
    (λ last rs n.
    let ds = frame_of p rs in
    let body = m.sts_of (sts_in c.args.body.now) in
    let a = desugar (m.meaning_of p) ds body in
    let turn = subst (λ s2. Emits a s2 (state_of p e3)) (c.in_ok-turn_of_loop.ensures p xs) (c.in_ok-stmts.ensures rs n) in
    subst (λ ys. Emits (Seq (Loop (head_of is ys) g a) (Mark (Behind c.args.number))) (state_of p c.args.state.now) (state_of p c.close_loop.new.state)) (c.in_ok-forgotten.ensures ds (length-map rs _ ∙ n))
    (loop_emits p (head_of is xs) g a c.args.number c.args.state.now e1 e3 c.close_loop.new.state (c.in_ok-mark_behind.ensures p ∙ ap (λ k. marked_at (Behind k) (state_of p c.args.state.now)) c.from.ensures) turn
    (last p a (state_of p e1) blocks undo turn)))
    c.close_loop.ensures
