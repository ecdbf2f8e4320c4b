use Rattle.std.proofs.Common.{◌≡◌, map, drop}
use Rattle.bg_ast.specs.Views.{proc_of, sts_in, arms_from, arm_view}
use Rattle.bg_changes.specs.Marks.{marks_of, mark_sts, mark_arms}
use Rattle.bg_changes.proofs.stmts.+mark_stmts.Given as goal

abbrev pub invariant-mark_arms-loop-a : goal.invariant-mark_arms-loop-a
invariant-mark_arms-loop-a l = mark_arms (map proc_of l.procedures) (arms_from (map arm_view (drop l.a-index l.arms))) (marks_of l.marks) ≡ mark_arms (map proc_of l.procedures) (arms_from (map arm_view l.arms)) (marks_of l.fn.marks)

abbrev pub invariant-mark_stmts-loop-s : goal.invariant-mark_stmts-loop-s
invariant-mark_stmts-loop-s l = mark_sts (map proc_of l.procedures) (sts_in (drop l.s-index l.ss)) (marks_of l.marks) ≡ mark_sts (map proc_of l.procedures) (sts_in l.ss) (marks_of l.fn.marks)
