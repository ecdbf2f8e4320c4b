use Rattle.bg_text.specs.Spelling.{Spells}
use Rattle.bg_reader.proofs.Told.{one_rest}
use Rattle.bg_expr.proofs.Said.{one_tree, one_placed}
use Rattle.bg_expr.proofs.laws.there_is_one_reading.Goals as goal

pub returns-clause-rest : goal.returns-clause-rest
returns-clause-rest c d ts x y e f r s = one_rest (Spells 0) d ts e f x y r s

pub returns-clause-tree : goal.returns-clause-tree
returns-clause-tree c d ts x y e f r s = one_tree d ts e f x y r s

pub returns-clause-positions : goal.returns-clause-positions
returns-clause-positions c d ts x y e f r s p o = one_placed d ts e f x y r s p o
