use Rattle.std.proofs.Common.{◌≡◌, ◌+◌, ◌++◌, [], map, drop, refl, sym, ap, ◌∙◌, is_some, arith}
use Rattle.bg_text.specs.Views as v
use Rattle.bg_ast.specs.Resolved as r
use Rattle.bg_ast.specs.Views.{st_of, sts_in, guard_of, clause_of, arm_view, arms_from}
use Rattle.bg_names.specs.Faults.{better}
use Rattle.bg_names.specs.Spaces.{or_zero}
use Rattle.bg_bodies.specs.Bodies.{labels_in, named_call, call_faults, break_as, break_faults, pass, named_guard, guard_faults, named_st, st_faults, named_sts, sts_faults, named_arms, arms_faults, sts_count, arms_count}
use Rattle.bg_names.specs.Views.{inside_of, first_of, stacked, blocks_of, around_of}
use Rattle.bg_bodies.specs.Views.{ahead_of, tree_sts, tree_arms}
use Rattle.bg_names.proofs.Firsts.{after}
use Rattle.bg_names.proofs.Forms.{both}
use Rattle.bg_bodies.proofs.StForms.{onto, arms_onto, onto_none, arms_none, sts_step, arms_step, drop_end, if_made, if_first, if_next, else_made, else_first, else_next, while_made, while_first, while_next}
use Rattle.bg_bodies.proofs.bodies.+name_stmt.Goals as goal

pub stmts-loop-s-preserved : goal.stmts-loop-s-preserved
stmts-loop-s-preserved t c =
    let b = inside_of c.args.inside.now in
    let w = c.args.walk.now in
    let i = c.loop-s.invariant in
    let x = c.in_ok-x.ensures in
    let S = v.st_of c.s-item.result in
    let loop = or_zero c.args.around in
    let in_loop = is_some c.args.around in
    let blocks = blocks_of w.blocks.items in
    let around = around_of w.blocks.items in
    let before = stacked c.loop-s.before.items in
    let step =
    sts_step b loop in_loop blocks around (ahead_of w) c.loop-s.made.items c.push.new.self.items c.args.ss.now c.loop-s.s-index c.s-item.result c.in_ok-x.x c.loop-s.walk.next c.next_stmt.new.walk.next before (stacked c.next_stmt.new.before.items) (ahead_of c.loop-s.walk) (ahead_of c.next_stmt.new.walk) (first_of c.loop-s.walk.notes) (first_of c.next_stmt.new.walk.notes) (named_sts b w.next loop blocks [] (tree_sts c.args.ss.now)) (better (first_of w.notes) (sts_faults b (ahead_of w) in_loop around [] (tree_sts c.args.ss.now))) (w.next + sts_count (tree_sts c.args.ss.now)) c.loop-s-test.true c.s-item.is i.0 i.1 i.2 i.3 (x.made ∙ ap (λ k. named_st b c.loop-s.walk.next loop (blocks_of k) before S) i.4) (x.first ∙ ap (λ k. better (first_of c.loop-s.walk.notes) (st_faults b (pass S (ahead_of c.loop-s.walk)) in_loop (around_of k) before S)) i.4) x.next x.ahead x.before c.in_ok-push.ensures.items
    in
    (step.0, step.1, step.2, step.3, x.blocks ∙ i.4)

pub stmts-returns-clause-made : goal.stmts-returns-clause-made
stmts-returns-clause-made t c =
    let b = inside_of c.args.inside.now in
    let w = c.args.walk.now in
    sym (onto_none (map st_of c.loop-s.made.items))
    ∙ ap (λ l. onto (map st_of c.loop-s.made.items) (named_sts b c.loop-s.walk.next (or_zero c.args.around) (blocks_of w.blocks.items) (stacked c.loop-s.before.items) (tree_sts l))) (sym (drop_end c.args.ss.now c.loop-s.s-index (omega (arith, c.loop-s-test.false))))
    ∙ c.loop-s.invariant.0

pub arms_of-loop-a-preserved : goal.arms_of-loop-a-preserved
arms_of-loop-a-preserved t c =
    let b = inside_of c.args.inside.now in
    let w = c.args.walk.now in
    let i = c.loop-a.invariant in
    let x = c.in_ok-x.ensures in
    let a = c.a-item.result in
    let loop = or_zero c.args.around in
    let in_loop = is_some c.args.around in
    let blocks = blocks_of w.blocks.items in
    let around = around_of w.blocks.items in
    let best = first_of c.loop-a.walk.notes in
    let step =
    arms_step b loop in_loop blocks around (ahead_of w) c.loop-a.made.items c.push.new.self.items c.args.arms.now c.loop-a.a-index a c.in_ok-x.x c.loop-a.walk.next c.arm.new.walk.next best (first_of c.arm.new.walk.notes) (named_arms b w.next loop blocks (tree_arms c.args.arms.now)) (better (first_of w.notes) (arms_faults b (ahead_of w) in_loop around (tree_arms c.args.arms.now))) (w.next + arms_count (tree_arms c.args.arms.now)) c.loop-a-test.true c.a-item.is i.0 i.1 i.2 (x.made ∙ ap (λ k. (named_guard b (v.guard_of a.guard), named_sts b c.loop-a.walk.next loop (blocks_of k) [] (tree_sts a.block.items))) i.4) (x.first ∙ both (λ h k. better best (guard_faults b (v.guard_of a.guard) ++ sts_faults b h in_loop (around_of k) [] (tree_sts a.block.items))) i.3 i.4) x.next c.in_ok-push.ensures.items
    in
    (step.0, step.1, step.2, x.ahead ∙ i.3, x.blocks ∙ i.4)

pub arms_of-returns-clause-made : goal.arms_of-returns-clause-made
arms_of-returns-clause-made t c =
    let b = inside_of c.args.inside.now in
    let w = c.args.walk.now in
    sym (arms_none (map arm_view c.loop-a.made.items))
    ∙ ap (λ l. arms_onto (map arm_view c.loop-a.made.items) (named_arms b c.loop-a.walk.next (or_zero c.args.around) (blocks_of w.blocks.items) (tree_arms l))) (sym (drop_end c.args.arms.now c.loop-a.a-index (omega (arith, c.loop-a-test.false))))
    ∙ c.loop-a.invariant.0

pub arm-returns-clause-first : goal.arm-returns-clause-first
arm-returns-clause-first t c =
    let b = inside_of c.args.inside.now in
    let w = c.args.walk.now in
    let a = c.args.a.now in
    after (first_of w.notes) (first_of c.guard.new.notes) (first_of c.stmts.new.walk.notes) (guard_faults b (v.guard_of a.guard)) (sts_faults b (ahead_of w) (is_some c.args.around) (around_of w.blocks.items) [] (tree_sts a.block.items)) c.in_ok-guard.ensures.first
    (c.in_ok-body.ensures.first ∙ ap (λ l. better (first_of c.guard.new.notes) (sts_faults b (ahead_of w) (is_some c.args.around) (around_of w.blocks.items) [] (tree_sts l))) c.deref.ensures.value)

pub stmt-returns-in_ok-arms-in-If-clause-made : goal.stmt-returns-in_ok-arms-in-If-clause-made
stmt-returns-in_ok-arms-in-If-clause-made t c =
    let w = c.args.walk.now in
    let k = c.in_ok-block-in-If.ensures in
    if_made (inside_of c.args.inside.now) (or_zero c.args.around) (is_some c.args.around) (stacked c.args.before.now) c.in-If.field-0 c.in-If.arms c.args.s.now w.next c.take_numbers-in-If.new.walk.next c.len.result c.in_ok-block-in-If.block (blocks_of w.blocks.items) (blocks_of c.take_numbers-in-If.new.walk.blocks.items) c.deref-in-If.result.now (arms_from (map arm_view c.in_ok-arms-in-If.arms.items)) c.new.result.items (st_of c.if_node.result) c.in-If.is c.if_node.ensures c.new.ensures.items c.in_ok-arms-in-If.ensures.made k.next (omega (arith, c.len.ensures, c.in-If.arms.ok.0)) k.ok (ap (λ l. blocks_of l.items) k.blocks) c.deref-in-If.ensures.value

pub stmt-returns-in_ok-arms-in-If-clause-first : goal.stmt-returns-in_ok-arms-in-If-clause-first
stmt-returns-in_ok-arms-in-If-clause-first t c =
    let w = c.args.walk.now in
    let n = c.take_numbers-in-If.new.walk in
    let k = c.in_ok-block-in-If.ensures in
    if_first (inside_of c.args.inside.now) (or_zero c.args.around) (is_some c.args.around) (stacked c.args.before.now) c.in-If.field-0 c.in-If.arms c.args.s.now c.deref-in-If.result.now (first_of w.notes) (first_of n.notes) (first_of c.arms_in.new.walk.notes) (ahead_of w) (ahead_of n) (around_of w.blocks.items) (around_of n.blocks.items) c.in-If.is c.deref-in-If.ensures.value (ap first_of k.notes) (ap (λ l. stacked l.items) k.ahead) (ap (λ l. around_of l.items) k.blocks) c.in_ok-arms-in-If.ensures.first

pub stmt-returns-in_ok-arms-in-If-clause-next : goal.stmt-returns-in_ok-arms-in-If-clause-next
stmt-returns-in_ok-arms-in-If-clause-next t c =
    let w = c.args.walk.now in
    if_next (inside_of c.args.inside.now) (or_zero c.args.around) (is_some c.args.around) (stacked c.args.before.now) c.in-If.field-0 c.in-If.arms c.args.s.now c.deref-in-If.result.now w.next c.take_numbers-in-If.new.walk.next c.arms_in.new.walk.next c.len.result c.in-If.is c.deref-in-If.ensures.value c.in_ok-block-in-If.ensures.next (omega (arith, c.len.ensures, c.in-If.arms.ok.0)) c.in_ok-arms-in-If.ensures.next

pub stmt-returns-in_ok-ss-in-IfElse-clause-made : goal.stmt-returns-in_ok-ss-in-IfElse-clause-made
stmt-returns-in_ok-ss-in-IfElse-clause-made t c =
    let w = c.args.walk.now in
    let k = c.in_ok-block-in-IfElse.ensures in
    let a = c.in_ok-arms-in-IfElse.ensures in
    let o = c.in_ok-ss-in-IfElse.ensures in
    else_made (inside_of c.args.inside.now) (or_zero c.args.around) (is_some c.args.around) (stacked c.args.before.now) c.in-IfElse.field-0 c.in-IfElse.arms c.in-IfElse.ss c.args.s.now w.next c.take_numbers-in-IfElse.new.walk.next c.arms_in-in-IfElse.new.walk.next c.len-in-IfElse.result c.in_ok-block-in-IfElse.block (blocks_of w.blocks.items) (blocks_of c.take_numbers-in-IfElse.new.walk.blocks.items) (blocks_of c.arms_in-in-IfElse.new.walk.blocks.items) c.deref-in-IfElse.result.now c.deref-in-IfElse-2.result.now (arms_from (map arm_view c.in_ok-arms-in-IfElse.arms.items)) c.in_ok-ss-in-IfElse.ss.items (st_of c.if_node-in-IfElse.result) c.in-IfElse.is c.if_node-in-IfElse.ensures a.made k.next (omega (arith, c.len-in-IfElse.ensures, c.in-IfElse.arms.ok.0)) k.ok (ap (λ l. blocks_of l.items) k.blocks) c.deref-in-IfElse.ensures.value o.made a.next (ap blocks_of a.blocks) c.deref-in-IfElse-2.ensures.value

pub stmt-returns-in_ok-ss-in-IfElse-clause-first : goal.stmt-returns-in_ok-ss-in-IfElse-clause-first
stmt-returns-in_ok-ss-in-IfElse-clause-first t c =
    let w = c.args.walk.now in
    let n = c.take_numbers-in-IfElse.new.walk in
    let m = c.arms_in-in-IfElse.new.walk in
    let k = c.in_ok-block-in-IfElse.ensures in
    let a = c.in_ok-arms-in-IfElse.ensures in
    else_first (inside_of c.args.inside.now) (or_zero c.args.around) (is_some c.args.around) (stacked c.args.before.now) c.in-IfElse.field-0 c.in-IfElse.arms c.in-IfElse.ss c.args.s.now c.deref-in-IfElse.result.now c.deref-in-IfElse-2.result.now (first_of w.notes) (first_of n.notes) (first_of m.notes) (first_of c.block_in.new.walk.notes) (ahead_of w) (ahead_of n) (ahead_of m) (around_of w.blocks.items) (around_of n.blocks.items) (around_of m.blocks.items) c.in-IfElse.is c.deref-in-IfElse.ensures.value c.deref-in-IfElse-2.ensures.value (ap first_of k.notes) (ap (λ l. stacked l.items) k.ahead) (ap (λ l. around_of l.items) k.blocks) a.ahead (ap around_of a.blocks) a.first c.in_ok-ss-in-IfElse.ensures.first

pub stmt-returns-in_ok-ss-in-IfElse-clause-next : goal.stmt-returns-in_ok-ss-in-IfElse-clause-next
stmt-returns-in_ok-ss-in-IfElse-clause-next t c =
    let w = c.args.walk.now in
    else_next (inside_of c.args.inside.now) (or_zero c.args.around) (is_some c.args.around) (stacked c.args.before.now) c.in-IfElse.field-0 c.in-IfElse.arms c.in-IfElse.ss c.args.s.now c.deref-in-IfElse.result.now c.deref-in-IfElse-2.result.now w.next c.take_numbers-in-IfElse.new.walk.next c.arms_in-in-IfElse.new.walk.next c.block_in.new.walk.next c.len-in-IfElse.result c.in-IfElse.is c.deref-in-IfElse.ensures.value c.deref-in-IfElse-2.ensures.value c.in_ok-block-in-IfElse.ensures.next (omega (arith, c.len-in-IfElse.ensures, c.in-IfElse.arms.ok.0)) c.in_ok-arms-in-IfElse.ensures.next c.in_ok-ss-in-IfElse.ensures.next

pub stmt-returns-in_ok-ss-in-While-clause-made : goal.stmt-returns-in_ok-ss-in-While-clause-made
stmt-returns-in_ok-ss-in-While-clause-made t c =
    let w = c.args.walk.now in
    let k = c.in_ok-block-in-While.ensures in
    let i = c.in_ok-ks-in-While.ensures in
    while_made (inside_of c.args.inside.now) (or_zero c.args.around) (is_some c.args.around) (stacked c.args.before.now) c.in-While.pos c.in-While.g c.in-While.ks c.in-While.ss c.args.s.now w.next c.take_numbers-in-While.new.walk.next c.invariants.new.walk.next c.in_ok-block-in-While.block (blocks_of w.blocks.items) (blocks_of c.invariants.new.walk.blocks.items) c.deref-in-While.result.now c.deref-in-While-2.result.now (guard_of c.in_ok-g-in-While.g) (map clause_of c.in_ok-ks-in-While.ks.items) (sts_in c.in_ok-ss-in-While.ss.items) (st_of c.while_node.result) c.in-While.is c.while_node.ensures k.ok k.next c.in_ok-g-in-While.ensures.made c.deref-in-While.ensures.value i.made i.next (ap (λ l. blocks_of l.items) (i.blocks ∙ k.blocks)) c.deref-in-While-2.ensures.value c.in_ok-ss-in-While.ensures.made

pub stmt-returns-in_ok-ss-in-While-clause-first : goal.stmt-returns-in_ok-ss-in-While-clause-first
stmt-returns-in_ok-ss-in-While-clause-first t c =
    let w = c.args.walk.now in
    let n = c.invariants.new.walk in
    let k = c.in_ok-block-in-While.ensures in
    let i = c.in_ok-ks-in-While.ensures in
    while_first (inside_of c.args.inside.now) (or_zero c.args.around) (is_some c.args.around) (stacked c.args.before.now) c.in-While.pos c.in-While.g c.in-While.ks c.in-While.ss c.args.s.now c.deref-in-While.result.now c.deref-in-While-2.result.now (first_of w.notes) (first_of c.take_numbers-in-While.new.walk.notes) (first_of c.guard.new.notes) (first_of n.notes) (first_of c.block_in-in-While.new.walk.notes) (ahead_of w) (ahead_of n) (around_of w.blocks.items) (around_of n.blocks.items) c.in-While.is (ap first_of k.notes) c.in_ok-g-in-While.ensures.first c.deref-in-While.ensures.value i.first (ap (λ l. stacked l.items) (i.ahead ∙ k.ahead)) (ap (λ l. around_of l.items) (i.blocks ∙ k.blocks)) c.deref-in-While-2.ensures.value c.in_ok-ss-in-While.ensures.first

pub stmt-returns-in_ok-ss-in-While-clause-next : goal.stmt-returns-in_ok-ss-in-While-clause-next
stmt-returns-in_ok-ss-in-While-clause-next t c =
    let w = c.args.walk.now in
    while_next (inside_of c.args.inside.now) (or_zero c.args.around) (is_some c.args.around) (stacked c.args.before.now) c.in-While.pos c.in-While.g c.in-While.ks c.in-While.ss c.args.s.now c.deref-in-While.result.now c.deref-in-While-2.result.now w.next c.take_numbers-in-While.new.walk.next c.invariants.new.walk.next c.block_in-in-While.new.walk.next c.in-While.is c.deref-in-While.ensures.value c.deref-in-While-2.ensures.value c.in_ok-block-in-While.ensures.next c.in_ok-ks-in-While.ensures.next c.in_ok-ss-in-While.ensures.next

pub stmts-returns-clause-first : goal.stmts-returns-clause-first
stmts-returns-clause-first t c =
    let b = inside_of c.args.inside.now in
    let w = c.args.walk.now in
    ap (λ l. better (first_of c.loop-s.walk.notes) (sts_faults b (ahead_of w) (is_some c.args.around) (around_of w.blocks.items) (stacked c.loop-s.before.items) (tree_sts l))) (sym (drop_end c.args.ss.now c.loop-s.s-index (omega (arith, c.loop-s-test.false))))
    ∙ c.loop-s.invariant.1

pub stmts-returns-clause-next : goal.stmts-returns-clause-next
stmts-returns-clause-next t c =
    let none : sts_count (tree_sts (drop c.loop-s.s-index c.args.ss.now)) ≡ 0 = ap (λ l. sts_count (tree_sts l)) (drop_end c.args.ss.now c.loop-s.s-index (omega (arith, c.loop-s-test.false))) in
    let known = c.loop-s.invariant.2 in
    omega (arith, none, known)

pub stmts-returns-clause-ahead : goal.stmts-returns-clause-ahead
stmts-returns-clause-ahead t c =
    let b = inside_of c.args.inside.now in
    let w = c.args.walk.now in
    c.loop-s.invariant.3 ∙ ap (λ l. labels_in b (tree_sts l) ++ ahead_of w) (drop_end c.args.ss.now c.loop-s.s-index (omega (arith, c.loop-s-test.false)))

pub stmts-returns-clause-blocks : goal.stmts-returns-clause-blocks
stmts-returns-clause-blocks t c = c.loop-s.invariant.4

pub arms_of-returns-clause-first : goal.arms_of-returns-clause-first
arms_of-returns-clause-first t c =
    let b = inside_of c.args.inside.now in
    let w = c.args.walk.now in
    ap (λ l. better (first_of c.loop-a.walk.notes) (arms_faults b (ahead_of w) (is_some c.args.around) (around_of w.blocks.items) (tree_arms l))) (sym (drop_end c.args.arms.now c.loop-a.a-index (omega (arith, c.loop-a-test.false))))
    ∙ c.loop-a.invariant.1

pub arms_of-returns-clause-next : goal.arms_of-returns-clause-next
arms_of-returns-clause-next t c =
    let none : arms_count (tree_arms (drop c.loop-a.a-index c.args.arms.now)) ≡ 0 = ap (λ l. arms_count (tree_arms l)) (drop_end c.args.arms.now c.loop-a.a-index (omega (arith, c.loop-a-test.false))) in
    let known = c.loop-a.invariant.2 in
    omega (arith, none, known)

pub arms_of-returns-clause-ahead : goal.arms_of-returns-clause-ahead
arms_of-returns-clause-ahead t c = c.loop-a.invariant.3

pub arms_of-returns-clause-blocks : goal.arms_of-returns-clause-blocks
arms_of-returns-clause-blocks t c = c.loop-a.invariant.4

pub block_in-returns-clause-made : goal.block_in-returns-clause-made
block_in-returns-clause-made t c =
    c.in_ok-made.ensures.made ∙ ap (λ k. named_sts (inside_of c.args.inside.now) c.args.walk.now.next (or_zero c.args.around) k [] (tree_sts c.args.ss.now)) c.in_ok-enter.ensures.entered

pub block_in-returns-clause-first : goal.block_in-returns-clause-first
block_in-returns-clause-first t c =
    let w = c.args.walk.now in
    c.in_ok-made.ensures.first ∙ ap (λ k. better (first_of w.notes) (sts_faults (inside_of c.args.inside.now) (ahead_of w) (is_some c.args.around) k [] (tree_sts c.args.ss.now))) c.in_ok-enter.ensures.around

pub block_in-returns-clause-next : goal.block_in-returns-clause-next
block_in-returns-clause-next t c = c.in_ok-made.ensures.next

pub block_in-returns-clause-ahead : goal.block_in-returns-clause-ahead
block_in-returns-clause-ahead t c = c.in_ok-made.ensures.ahead

pub arms_in-returns-clause-made : goal.arms_in-returns-clause-made
arms_in-returns-clause-made t c =
    c.in_ok-made.ensures.made ∙ ap (λ k. named_arms (inside_of c.args.inside.now) c.args.walk.now.next (or_zero c.args.around) k (tree_arms c.args.arms.now)) c.in_ok-enter.ensures.entered

pub arms_in-returns-clause-first : goal.arms_in-returns-clause-first
arms_in-returns-clause-first t c =
    let w = c.args.walk.now in
    c.in_ok-made.ensures.first ∙ ap (λ k. better (first_of w.notes) (arms_faults (inside_of c.args.inside.now) (ahead_of w) (is_some c.args.around) k (tree_arms c.args.arms.now))) c.in_ok-enter.ensures.around

pub arms_in-returns-clause-next : goal.arms_in-returns-clause-next
arms_in-returns-clause-next t c = c.in_ok-made.ensures.next

pub arms_in-returns-clause-ahead : goal.arms_in-returns-clause-ahead
arms_in-returns-clause-ahead t c = c.in_ok-made.ensures.ahead

pub next_stmt-returns-clause-made : goal.next_stmt-returns-clause-made
next_stmt-returns-clause-made t c =
    let w = c.args.walk.now in
    c.in_ok-x.ensures.made ∙ ap (λ l. named_st (inside_of c.args.inside.now) w.next (or_zero c.args.around) (blocks_of w.blocks.items) (stacked l) (v.st_of c.args.s.now)) c.deref.ensures.value

pub next_stmt-returns-clause-first : goal.next_stmt-returns-clause-first
next_stmt-returns-clause-first t c =
    let w = c.args.walk.now in
    c.in_ok-x.ensures.first
    ∙ both (λ h l. better (first_of w.notes) (st_faults (inside_of c.args.inside.now) h (is_some c.args.around) (around_of w.blocks.items) (stacked l) (v.st_of c.args.s.now))) c.pass_label.ensures c.deref.ensures.value

pub next_stmt-returns-clause-next : goal.next_stmt-returns-clause-next
next_stmt-returns-clause-next t c = c.in_ok-x.ensures.next

pub next_stmt-returns-clause-ahead : goal.next_stmt-returns-clause-ahead
next_stmt-returns-clause-ahead t c = c.in_ok-x.ensures.ahead ∙ c.pass_label.ensures

pub next_stmt-returns-clause-blocks : goal.next_stmt-returns-clause-blocks
next_stmt-returns-clause-blocks t c = c.in_ok-x.ensures.blocks

pub next_stmt-returns-clause-before : goal.next_stmt-returns-clause-before
next_stmt-returns-clause-before t c = c.in_ok-note_before.ensures.before

pub arm-returns-clause-made : goal.arm-returns-clause-made
arm-returns-clause-made t c =
    let w = c.args.walk.now in
    both (λ g x. (g, x)) c.in_ok-guard.ensures.made (c.in_ok-body.ensures.made ∙ ap (λ l. named_sts (inside_of c.args.inside.now) w.next (or_zero c.args.around) (blocks_of w.blocks.items) [] (tree_sts l)) c.deref.ensures.value)

pub stmt-returns-in_ok-number_of-in-Label-clause-made : goal.stmt-returns-in_ok-number_of-in-Label-clause-made
stmt-returns-in_ok-number_of-in-Label-clause-made t c =
    rw c.in-Label.is (ap r.Label c.in_ok-number_of-in-Label.ensures.ok)

pub stmt-returns-in_ok-number_of-in-Label-clause-first : goal.stmt-returns-in_ok-number_of-in-Label-clause-first
stmt-returns-in_ok-number_of-in-Label-clause-first t c = rw c.in-Label.is refl

pub stmt-returns-in_ok-number_of-in-Label-clause-next : goal.stmt-returns-in_ok-number_of-in-Label-clause-next
stmt-returns-in_ok-number_of-in-Label-clause-next t c = rw c.in-Label.is (omega arith)

pub stmt-returns-in_ok-invariant-in-Assert-clause-made : goal.stmt-returns-in_ok-invariant-in-Assert-clause-made
stmt-returns-in_ok-invariant-in-Assert-clause-made t c =
    rw c.in-Assert.is (ap r.Assert c.in_ok-invariant-in-Assert.ensures.made)

pub stmt-returns-in_ok-invariant-in-Assert-clause-first : goal.stmt-returns-in_ok-invariant-in-Assert-clause-first
stmt-returns-in_ok-invariant-in-Assert-clause-first t c = rw c.in-Assert.is c.in_ok-invariant-in-Assert.ensures.first

pub stmt-returns-in_ok-invariant-in-Assert-clause-next : goal.stmt-returns-in_ok-invariant-in-Assert-clause-next
stmt-returns-in_ok-invariant-in-Assert-clause-next t c = rw c.in-Assert.is c.in_ok-invariant-in-Assert.ensures.next

pub stmt-returns-in_ok-e-in-Assume-clause-made : goal.stmt-returns-in_ok-e-in-Assume-clause-made
stmt-returns-in_ok-e-in-Assume-clause-made t c =
    rw c.in-Assume.is (ap r.Assume c.in_ok-e-in-Assume.ensures.made)

pub stmt-returns-in_ok-e-in-Assume-clause-first : goal.stmt-returns-in_ok-e-in-Assume-clause-first
stmt-returns-in_ok-e-in-Assume-clause-first t c = rw c.in-Assume.is c.in_ok-e-in-Assume.ensures.first

pub stmt-returns-in_ok-e-in-Assume-clause-next : goal.stmt-returns-in_ok-e-in-Assume-clause-next
stmt-returns-in_ok-e-in-Assume-clause-next t c = rw c.in-Assume.is (omega arith)

pub stmt-returns-in-Havoc-clause-made : goal.stmt-returns-in-Havoc-clause-made
stmt-returns-in-Havoc-clause-made t c =
    rw (c.in-Havoc.is, sym c.deref.ensures.value) c.havoc.ensures.made

pub stmt-returns-in-Havoc-clause-first : goal.stmt-returns-in-Havoc-clause-first
stmt-returns-in-Havoc-clause-first t c =
    rw (c.in-Havoc.is, sym c.deref.ensures.value) c.havoc.ensures.first

pub stmt-returns-in-Assign-clause-made : goal.stmt-returns-in-Assign-clause-made
stmt-returns-in-Assign-clause-made t c =
    rw (c.in-Assign.is, sym c.deref-in-Assign.ensures.value, sym c.deref-in-Assign-2.ensures.value) c.assign.ensures.made

pub stmt-returns-in-Assign-clause-first : goal.stmt-returns-in-Assign-clause-first
stmt-returns-in-Assign-clause-first t c =
    rw (c.in-Assign.is, sym c.deref-in-Assign.ensures.value, sym c.deref-in-Assign-2.ensures.value) c.assign.ensures.first

pub stmt-returns-in_ok-c-in-Call-clause-made : goal.stmt-returns-in_ok-c-in-Call-clause-made
stmt-returns-in_ok-c-in-Call-clause-made t c =
    rw c.in-Call.is (ap r.Invoke (c.in_ok-c-in-Call.ensures.made ∙ ap (λ n. named_call (inside_of c.args.inside.now) n (v.call_of c.in-Call.c)) c.in_ok-site-in-Call.ensures.ok))

pub stmt-returns-in_ok-c-in-Call-clause-first : goal.stmt-returns-in_ok-c-in-Call-clause-first
stmt-returns-in_ok-c-in-Call-clause-first t c =
    rw c.in-Call.is (c.in_ok-c-in-Call.ensures.first ∙ ap (λ k. better (first_of k) (call_faults (inside_of c.args.inside.now) (v.call_of c.in-Call.c))) c.in_ok-site-in-Call.ensures.notes)

pub stmt-returns-in_ok-c-in-Call-clause-next : goal.stmt-returns-in_ok-c-in-Call-clause-next
stmt-returns-in_ok-c-in-Call-clause-next t c = rw c.in-Call.is c.in_ok-site-in-Call.ensures.next

pub stmt-returns-in_ok-block-in-Break-clause-made : goal.stmt-returns-in_ok-block-in-Break-clause-made
stmt-returns-in_ok-block-in-Break-clause-made t c =
    rw c.in-Break.is (ap r.Break (c.in_ok-block-in-Break.ensures.made ∙ ap (λ l. break_as (inside_of c.args.inside.now) (or_zero c.args.around) (blocks_of l) (v.option_of v.id_of c.in-Break.name)) c.deref-in-Break.ensures.value))

pub stmt-returns-in_ok-block-in-Break-clause-first : goal.stmt-returns-in_ok-block-in-Break-clause-first
stmt-returns-in_ok-block-in-Break-clause-first t c =
    rw c.in-Break.is (c.in_ok-block-in-Break.ensures.first ∙ ap (λ l. better (first_of c.args.walk.now.notes) (break_faults (inside_of c.args.inside.now) (is_some c.args.around) (around_of l) c.in-Break.pos (v.option_of v.id_of c.in-Break.name))) c.deref-in-Break.ensures.value)

pub stmt-returns-in_ok-block-in-Break-clause-next : goal.stmt-returns-in_ok-block-in-Break-clause-next
stmt-returns-in_ok-block-in-Break-clause-next t c = rw c.in-Break.is (omega arith)

pub stmt-returns-in-Goto-clause-made : goal.stmt-returns-in-Goto-clause-made
stmt-returns-in-Goto-clause-made t c =
    rw (c.in-Goto.is, sym c.deref-in-Goto-2.ensures.value) c.goto.ensures.made

pub stmt-returns-in-Goto-clause-first : goal.stmt-returns-in-Goto-clause-first
stmt-returns-in-Goto-clause-first t c =
    rw (c.in-Goto.is, sym c.deref-in-Goto-2.ensures.value, sym c.deref-in-Goto.ensures.value) c.goto.ensures.first

pub stmt-returns-in-Return-clause-made : goal.stmt-returns-in-Return-clause-made
stmt-returns-in-Return-clause-made t c = rw c.in-Return.is refl

pub stmt-returns-in-Return-clause-first : goal.stmt-returns-in-Return-clause-first
stmt-returns-in-Return-clause-first t c = rw c.in-Return.is refl

pub stmt-returns-in-Return-clause-next : goal.stmt-returns-in-Return-clause-next
stmt-returns-in-Return-clause-next t c = rw c.in-Return.is (omega arith)

pub stmt-returns-in_ok-arms-in-If-clause-ahead : goal.stmt-returns-in_ok-arms-in-If-clause-ahead
stmt-returns-in_ok-arms-in-If-clause-ahead t c =
    c.in_ok-arms-in-If.ensures.ahead ∙ ap (λ l. stacked l.items) c.in_ok-block-in-If.ensures.ahead

pub stmt-returns-in_ok-arms-in-If-clause-blocks : goal.stmt-returns-in_ok-arms-in-If-clause-blocks
stmt-returns-in_ok-arms-in-If-clause-blocks t c =
    c.in_ok-arms-in-If.ensures.blocks ∙ ap (λ l. l.items) c.in_ok-block-in-If.ensures.blocks

pub stmt-returns-in_ok-ss-in-IfElse-clause-ahead : goal.stmt-returns-in_ok-ss-in-IfElse-clause-ahead
stmt-returns-in_ok-ss-in-IfElse-clause-ahead t c =
    c.in_ok-ss-in-IfElse.ensures.ahead ∙ c.in_ok-arms-in-IfElse.ensures.ahead ∙ ap (λ l. stacked l.items) c.in_ok-block-in-IfElse.ensures.ahead

pub stmt-returns-in_ok-ss-in-IfElse-clause-blocks : goal.stmt-returns-in_ok-ss-in-IfElse-clause-blocks
stmt-returns-in_ok-ss-in-IfElse-clause-blocks t c =
    c.in_ok-ss-in-IfElse.ensures.blocks ∙ c.in_ok-arms-in-IfElse.ensures.blocks ∙ ap (λ l. l.items) c.in_ok-block-in-IfElse.ensures.blocks

pub stmt-returns-in_ok-ss-in-While-clause-ahead : goal.stmt-returns-in_ok-ss-in-While-clause-ahead
stmt-returns-in_ok-ss-in-While-clause-ahead t c =
    c.in_ok-ss-in-While.ensures.ahead ∙ ap (λ l. stacked l.items) (c.in_ok-ks-in-While.ensures.ahead ∙ c.in_ok-block-in-While.ensures.ahead)

pub stmt-returns-in_ok-ss-in-While-clause-blocks : goal.stmt-returns-in_ok-ss-in-While-clause-blocks
stmt-returns-in_ok-ss-in-While-clause-blocks t c =
    c.in_ok-ss-in-While.ensures.blocks ∙ ap (λ l. l.items) (c.in_ok-ks-in-While.ensures.blocks ∙ c.in_ok-block-in-While.ensures.blocks)
