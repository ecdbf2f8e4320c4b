use Rattle.std.proofs.Common.{◌≡◌, ◌+◌, ◌*◌, ◌≤◌, List, length, map, drop}
use Rattle.bg_ast.specs.Resolved as r
use Rattle.bg_ast.specs.Meaning as m
use Rattle.bg_ast.specs.Views.{program_of, st_of, sts_in, arms_from, arm_view}
use Rattle.bg_flow.specs.Core.{desugar}
use Rattle.bg_blocks.specs.Emitted.{Emits, marked_each}
use Rattle.bg_blocks.specs.EmittedViews.{state_of, EmitsBody, frame_of}
use Rattle.bg_blocks.proofs.Sizes.{size_st, size_sts, size_arms}
use Rattle.bg_blocks.proofs.stmts.+stmts.Given as goal

abbrev pub decreases-stmt : goal.decreases-stmt
decreases-stmt l = 4 * size_st (st_of l.a.now)

abbrev pub decreases-branch : goal.decreases-branch
decreases-branch l = 4 * (size_arms (arms_from (map arm_view l.arms.now)) + size_sts (sts_in l.otherwise.now)) + 3

abbrev pub decreases-arm : goal.decreases-arm
decreases-arm l = 4 * size_sts (sts_in l.a.now.body.items) + 2

abbrev pub decreases-turns : goal.decreases-turns
decreases-turns l = 4 * size_sts (sts_in l.body.now) + 2

abbrev pub decreases-stmts : goal.decreases-stmts
decreases-stmts l = 4 * size_sts (sts_in l.ss.now)

abbrev pub invariant-branch-loop-i : goal.invariant-branch-loop-i
invariant-branch-loop-i l =
    (l.i ≤ length l.arms)
    × ((rs : List r.Declared) → length rs ≡ l.around.frame →
    Emits
    (desugar (m.meaning_of (program_of l.around.program.now)) (frame_of (program_of l.around.program.now) rs) (m.arms_of (l.number + l.i) (arms_from (map arm_view (drop l.i l.arms))) (m.sts_of (sts_in l.otherwise))))
    (marked_each l.number l.i (state_of (program_of l.around.program.now) l.fn.state))
    (state_of (program_of l.around.program.now) l.state))

abbrev pub decreases-branch-loop-i : goal.decreases-branch-loop-i
decreases-branch-loop-i l = l.i

abbrev pub invariant-stmts-loop-i : goal.invariant-stmts-loop-i
invariant-stmts-loop-i l =
    (l.i ≤ length l.ss)
    × EmitsBody (program_of l.around.program.now) l.around.frame (m.sts_of (sts_in (drop l.i l.ss))) l.fn.state l.state

abbrev pub decreases-stmts-loop-i : goal.decreases-stmts-loop-i
decreases-stmts-loop-i l = l.i
