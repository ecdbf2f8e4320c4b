use Rattle.bg_check.proofs.claimed.mark_behind.Given as goal

abbrev pub decreases-loop-left : goal.decreases-loop-left
decreases-loop-left l = l.left
