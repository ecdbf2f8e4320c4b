use Rattle.bg_wanted.proofs.chased.put_all_near.Goals as goal

pub loop-l-init : goal.loop-l-init
loop-l-init c = λ fs incs si lost. lost

pub loop-l-preserved : goal.loop-l-preserved
loop-l-preserved c = λ fs incs si lost. c.in_ok-put_near.ensures fs incs si (c.loop-l.invariant fs incs si lost)

pub returns : goal.returns
returns c = c.loop-l.invariant
