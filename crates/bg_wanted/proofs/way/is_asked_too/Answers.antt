use Rattle.bg_wanted.proofs.way.is_asked_too.Goals as goal

pub returns-then-is_there : goal.returns-then-is_there
returns-then-is_there c = λ fs e. absurd (let bad : ⊥ = cc in bad)

pub returns : goal.returns
returns c = λ fs e. c.is_there.ensures.not fs c.if-is_there.false
