use Rattle.bg_text.specs.Spelling.{Spells}
use Rattle.bg_reader.proofs.Told.{read_not_refused, read_not_deep, refused_not_deep}
use Rattle.bg_expr.proofs.laws.answers_exclude_one_another.Goals as goal

pub returns-clause-syntax : goal.returns-clause-syntax
returns-clause-syntax c d ts x y e r f = read_not_refused (Spells 0) d ts e x y r f

pub returns-clause-deep : goal.returns-clause-deep
returns-clause-deep c d ts x y e r f = read_not_deep (Spells 0) d ts e x y r f

pub returns-clause-refusals : goal.returns-clause-refusals
returns-clause-refusals c d ts x y r f = refused_not_deep (Spells 0) d ts x y r f
