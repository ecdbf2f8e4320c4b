use Rattle.bg_wanted.proofs.chased.along_all.Goals as goal

pub loop-a-init : goal.loop-a-init
loop-a-init c = λ fs incs si way. way

pub loop-a-preserved : goal.loop-a-preserved
loop-a-preserved c = λ fs incs si way. c.in_ok-along_marked.ensures fs incs si (c.loop-a.invariant fs incs si way)

pub returns : goal.returns
returns c = c.loop-a.invariant
