use Rattle.bg_text.specs.Spelling.{Spells}
use Rattle.bg_reader.proofs.Told.{one_refusal, one_depth}
use Rattle.bg_expr.proofs.laws.there_is_one_refusal.Goals as goal

pub returns-clause-syntax : goal.returns-clause-syntax
returns-clause-syntax c d ts x y r s = one_refusal (Spells 0) d ts x y r s

pub returns-clause-deep : goal.returns-clause-deep
returns-clause-deep c d ts x y r s = one_depth (Spells 0) d ts x y r s
