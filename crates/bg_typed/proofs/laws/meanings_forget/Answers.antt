use Rattle.bg_typed.proofs.Forgets.{right_sides, index_types, own_names}
use Rattle.bg_typed.proofs.laws.meanings_forget.Goals as goal

pub returns-clause-sides : goal.returns-clause-sides
returns-clause-sides c = right_sides

pub returns-clause-indices : goal.returns-clause-indices
returns-clause-indices c = index_types

pub returns-clause-names : goal.returns-clause-names
returns-clause-names c = own_names
