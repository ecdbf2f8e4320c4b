use Rattle.bg_wanted.proofs.chased.along_claim.Goals as goal

pub returns : goal.returns
returns c = λ fs incs si way. c.in_ok-along_later.ensures fs incs si (c.in_ok-along_all.ensures fs incs si way)
