use Rattle.bg_wanted.proofs.way.known_there.Goals as goal

pub returns-then-is_there : goal.returns-then-is_there
returns-then-is_there c = λ fs. c.is_there.ensures.so fs c.if-is_there.true
