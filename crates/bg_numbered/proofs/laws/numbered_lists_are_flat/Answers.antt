use Rattle.bg_numbered.proofs.Numbered.{all_grow, all_flat, all_fair}
use Rattle.bg_numbered.proofs.laws.numbered_lists_are_flat.Goals as goal

pub returns-clause-grows : goal.returns-clause-grows
returns-clause-grows c fs incs ts es = all_grow fs incs es ts

pub returns-clause-flat : goal.returns-clause-flat
returns-clause-flat c fs incs ts es f = all_flat fs incs es ts f

pub returns-clause-fair : goal.returns-clause-fair
returns-clause-fair c fs incs ts es f h = all_fair fs incs es ts f h
