use Rattle.std.proofs.Common.{◌≡◌, map, drop}
use Rattle.bg_ast.specs.Syntax.{Global}
use Rattle.bg_changes.specs.Marks.{marks_of, with_marks}
use Rattle.bg_changes.proofs.marks.mark_globals.Given as goal

abbrev pub invariant-loop-k : goal.invariant-loop-k
invariant-loop-k l = with_marks (map Global (drop l.k-index l.ks)) (marks_of l.marks) ≡ with_marks (map Global l.ks) (marks_of l.fn.marks)
