use Rattle.bg_opening.specs.Nexts.{kept}
use Rattle.bg_opening.proofs.NextSteps.{Done}
use Rattle.bg_opening.proofs.nexts.nexts_of.Given as goal

abbrev pub invariant-loop-done : goal.invariant-loop-done
invariant-loop-done l = Done l.told l.done (kept l.later) l.made.items
