use Rattle.bg_wanted.proofs.way.step.Goals as goal

pub returns-then-not-is_first : goal.returns-then-not-is_first
returns-then-not-is_first c = λ at fs incs si way. way

pub returns : goal.returns
returns c = λ at fs incs si way. c.in_ok-at_all.ensures at fs incs si way
