use Rattle.bg_pick.specs.Marks.{DecidedBelow}
use Rattle.bg_pick.proofs.mark.free_from.Given as goal

abbrev pub invariant-loop-a : goal.invariant-loop-a
invariant-loop-a l = DecidedBelow l.trail.decisions.items l.a
