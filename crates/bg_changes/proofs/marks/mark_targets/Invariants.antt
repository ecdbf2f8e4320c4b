use Rattle.std.proofs.Common.{◌≡◌, map, drop}
use Rattle.bg_ast.specs.Views.{target_of}
use Rattle.bg_changes.specs.Marks.{marks_of, with_marks, target_variable}
use Rattle.bg_changes.proofs.marks.mark_targets.Given as goal

abbrev pub invariant-loop-t : goal.invariant-loop-t
invariant-loop-t l = with_marks (map target_variable (map target_of (drop l.t-index l.ts))) (marks_of l.marks) ≡ with_marks (map target_variable (map target_of l.ts)) (marks_of l.fn.marks)
