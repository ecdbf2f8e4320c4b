use Rattle.bg_wanted.proofs.way.from_select.Goals as goal

pub loop-init : goal.loop-init
loop-init c = λ at fs incs si way. way

pub loop-preserved : goal.loop-preserved
loop-preserved c = λ at fs incs si way. c.in_ok-step-in-Some.ensures at fs incs si (c.loop.invariant at fs incs si way)

pub returns : goal.returns
returns c = c.loop.invariant
