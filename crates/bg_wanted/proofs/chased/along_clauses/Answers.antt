use Rattle.bg_wanted.proofs.chased.along_clauses.Goals as goal

pub returns-then-is_silent : goal.returns-then-is_silent
returns-then-is_silent c = λ fs incs si way. c.in_ok-along_all-2.ensures fs incs si (c.in_ok-along_all.ensures fs incs si way)

pub returns : goal.returns
returns c = λ fs incs si way. c.in_ok-along_all.ensures fs incs si way
