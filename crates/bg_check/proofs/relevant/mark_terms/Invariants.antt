use Rattle.bg_check.proofs.relevant.mark_terms.Given as goal

abbrev pub decreases-loop-left : goal.decreases-loop-left
decreases-loop-left l = l.left
