use Rattle.bg_wanted.proofs.way.at_all.Goals as goal

pub loop-y-init : goal.loop-y-init
loop-y-init c = λ at fs incs si way. way

pub loop-y-preserved : goal.loop-y-preserved
loop-y-preserved c = λ at fs incs si way. c.in_ok-at_one.ensures at fs incs si (c.loop-y.invariant at fs incs si way)

pub returns : goal.returns
returns c = c.loop-y.invariant
