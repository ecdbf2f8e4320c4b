use Rattle.bg_numbered.proofs.Numbered.{grows, flat, fair}
use Rattle.bg_numbered.proofs.Indexed.{indices}
use Rattle.bg_numbered.proofs.laws.numbered_expressions_are_flat.Goals as goal

pub returns-clause-grows : goal.returns-clause-grows
returns-clause-grows c fs incs ts e = grows fs incs e ts

pub returns-clause-flat : goal.returns-clause-flat
returns-clause-flat c fs incs ts e f = flat fs incs e ts f

pub returns-clause-fair : goal.returns-clause-fair
returns-clause-fair c fs incs ts e f h = fair fs incs e ts f h

pub returns-clause-indexed : goal.returns-clause-indexed
returns-clause-indexed c fs incs ts e gives all f g h = indices fs gives incs all e ts f g h
