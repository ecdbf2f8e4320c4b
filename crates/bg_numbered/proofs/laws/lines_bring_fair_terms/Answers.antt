use Rattle.bg_numbered.proofs.Lines.{lines_grow, lines_fair, lines_indexed}
use Rattle.bg_numbered.proofs.laws.lines_bring_fair_terms.Goals as goal

pub returns-clause-grows : goal.returns-clause-grows
returns-clause-grows c incs ts ls = lines_grow incs ts ls

pub returns-clause-fair : goal.returns-clause-fair
returns-clause-fair c fs incs ts ls h = lines_fair fs incs ts ls h

pub returns-clause-indexed : goal.returns-clause-indexed
returns-clause-indexed c incs ts ls h = lines_indexed incs ts ls h
