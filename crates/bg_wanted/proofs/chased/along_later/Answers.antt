use Rattle.bg_wanted.proofs.chased.along_later.Goals as goal

pub loop-init : goal.loop-init
loop-init c = λ fs incs si way. way

pub loop-preserved : goal.loop-preserved
loop-preserved c = λ fs incs si way. c.in_ok-along-in-Some.ensures fs incs si (c.loop.invariant fs incs si way)

pub returns : goal.returns
returns c = c.loop.invariant
