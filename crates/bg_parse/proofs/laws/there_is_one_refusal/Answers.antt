use Rattle.bg_parse.proofs.Answered.{one_stop, one_deep}
use Rattle.bg_parse.proofs.laws.there_is_one_refusal.Goals as goal

pub returns-clause-syntax : goal.returns-clause-syntax
returns-clause-syntax c d ts x y = one_stop d ts x y

pub returns-clause-deep : goal.returns-clause-deep
returns-clause-deep c d ts x y = one_deep d ts x y
