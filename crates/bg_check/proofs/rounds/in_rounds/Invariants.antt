use Rattle.bg_ast.specs.Views.{program_of}
use Rattle.bg_cert.specs.Walks.{has}
use Rattle.bg_places.specs.Views.{placed_of}
use Rattle.bg_check.specs.Stands.{StandsAt}
use Rattle.bg_check.proofs.rounds.in_rounds.Given as goal

abbrev pub invariant-loop-stand : goal.invariant-loop-stand
invariant-loop-stand l =
    StandsAt (program_of l.question.program.now) (has l.question.set.now) (placed_of l.question.place.now).place l.question.prepared.now l.effort.budget l.stand

abbrev pub decreases-loop-stand : goal.decreases-loop-stand
decreases-loop-stand l = l.stand.left
