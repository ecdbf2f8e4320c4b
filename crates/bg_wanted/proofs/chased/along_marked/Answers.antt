use Rattle.bg_wanted.proofs.chased.along_marked.Goals as goal

pub returns-then-not-is_asked : goal.returns-then-not-is_asked
returns-then-not-is_asked c = λ fs incs si way. way

pub returns : goal.returns
returns c = λ fs incs si way. c.in_ok-along.ensures fs incs si way
