use Rattle.bg_wanted.proofs.Leading.{update_below}
use Rattle.bg_wanted.proofs.way.at_its_index.Goals as goal

pub returns-then-not-are_same-clause-told : goal.returns-then-not-are_same-clause-told
returns-then-not-are_same-clause-told c =
    λ is high fs incs si way.
    c.in_ok-at_new.ensures.told fs incs si (update_below fs incs c.args.sight si c.args.update is) high way

pub returns-clause-told : goal.returns-clause-told
returns-clause-told c =
    λ is high fs incs si way.
    c.in_ok-at_index.ensures.told fs incs si (update_below fs incs c.args.sight si c.args.update is) high way
