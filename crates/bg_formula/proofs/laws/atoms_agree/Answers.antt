use Rattle.bg_formula.proofs.Agree.{atoms_agree as all_agree}
use Rattle.bg_formula.proofs.laws.atoms_agree.Goals as goal

pub returns : goal.returns
returns c f = all_agree f.atoms.items
