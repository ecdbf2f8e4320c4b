use Rattle.bg_tree.proofs.Leaves.{leaf_clauses, leaf_units, leaf_atoms}
use Rattle.bg_tree.proofs.laws.leaves_are_met.Goals as goal

pub returns-clause-clauses : goal.returns-clause-clauses
returns-clause-clauses c = leaf_clauses

pub returns-clause-units : goal.returns-clause-units
returns-clause-units c = leaf_units

pub returns-clause-atoms : goal.returns-clause-atoms
returns-clause-atoms c = leaf_atoms
