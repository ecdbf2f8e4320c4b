use Rattle.bg_parse.proofs.Answered.{program_not_stopped, program_not_deep, stopped_not_deep}
use Rattle.bg_parse.proofs.laws.answers_exclude_one_another.Goals as goal

pub returns-clause-syntax : goal.returns-clause-syntax
returns-clause-syntax c d ts x ds = program_not_stopped d ts ds x

pub returns-clause-deep : goal.returns-clause-deep
returns-clause-deep c d ts x ds = program_not_deep d ts ds x

pub returns-clause-refusals : goal.returns-clause-refusals
returns-clause-refusals c d ts x y = stopped_not_deep d ts x y
