use Rattle.bg_wanted.proofs.way.along.Goals as goal

pub returns-in-None : goal.returns-in-None
returns-in-None c = λ fs incs si way. way

pub returns-in_ok-from_select-in-Some : goal.returns-in_ok-from_select-in-Some
returns-in_ok-from_select-in-Some c = c.in_ok-from_select-in-Some.ensures c.in-Some.ensures.0
