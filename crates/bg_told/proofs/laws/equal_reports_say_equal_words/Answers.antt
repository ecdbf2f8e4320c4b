use Rattle.bg_told.proofs.Decided.{text_decides}
use Rattle.bg_told.proofs.laws.equal_reports_say_equal_words.Goals as goal

pub returns : goal.returns
returns c = text_decides
