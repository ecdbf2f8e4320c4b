use Rattle.std.proofs.Common.{◌≡◌, map, drop}
use Rattle.bg_ast.specs.Views.{placed_of}
use Rattle.bg_ast.specs.Meaning.{variable_of}
use Rattle.bg_changes.specs.Marks.{marks_of, with_marks}
use Rattle.bg_changes.proofs.marks.mark_placed.Given as goal

abbrev pub invariant-loop-x : goal.invariant-loop-x
invariant-loop-x l = with_marks (map variable_of (map placed_of (drop l.x-index l.xs))) (marks_of l.marks) ≡ with_marks (map variable_of (map placed_of l.xs)) (marks_of l.fn.marks)
