use Rattle.bg_wanted.proofs.way.at_one.Goals as goal

pub returns-in-None : goal.returns-in-None
returns-in-None c = λ at fs incs si way. way

pub returns-in-None-update_at : goal.returns-in-None-update_at
returns-in-None-update_at c = λ at fs incs si way. way

pub returns-in_ok-at_update-in-Some-update_at : goal.returns-in_ok-at_update-in-Some-update_at
returns-in_ok-at_update-in-Some-update_at c = λ at. c.in_ok-at_update-in-Some-update_at.ensures c.in-Some-update_at.ensures.0 at
