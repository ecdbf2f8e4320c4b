use Rattle.bg_typed.proofs.Typings.{formula}
use Rattle.bg_typed.proofs.laws.formulas_are_formulas.Goals as goal

pub returns : goal.returns
returns c = formula
