use Rattle.bg_meet.proofs.dilemma.+dilemma.Given as goal

abbrev pub decreases-dilemma : goal.decreases-dilemma
decreases-dilemma l = l.depth
