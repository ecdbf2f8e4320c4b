use Rattle.bg_pick.proofs.probe.forget.Given as goal

abbrev pub decreases-loop-a : goal.decreases-loop-a
decreases-loop-a l = goal.left-loop-a l
