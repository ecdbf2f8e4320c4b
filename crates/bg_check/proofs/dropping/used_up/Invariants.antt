use Rattle.std.proofs.Common.{length}
use Rattle.bg_ast.specs.Meaning.{meaning_of}
use Rattle.bg_ast.specs.Views.{program_of}
use Rattle.bg_cert.specs.Walks.{has}
use Rattle.bg_places.specs.Views.{placed_of}
use Rattle.bg_check.specs.Dropped.{FailsWithin}
use Rattle.bg_check.proofs.dropping.used_up.Given as goal

abbrev pub invariant-loop-left : goal.invariant-loop-left
invariant-loop-left l = FailsWithin (meaning_of (program_of l.question.program.now)) (has l.question.set.now) (placed_of l.question.place.now).place l.left

abbrev pub decreases-loop-left : goal.decreases-loop-left
decreases-loop-left l = length l.left.choices.items
