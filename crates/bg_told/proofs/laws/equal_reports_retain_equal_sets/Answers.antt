use Rattle.bg_told.proofs.Decided.{text_decides_sets}
use Rattle.bg_told.proofs.laws.equal_reports_retain_equal_sets.Goals as goal

pub returns : goal.returns
returns c = text_decides_sets
