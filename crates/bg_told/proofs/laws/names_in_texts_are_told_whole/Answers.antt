use Rattle.bg_told.proofs.Whole.{names_are_printed}
use Rattle.bg_told.proofs.laws.names_in_texts_are_told_whole.Goals as goal

pub returns : goal.returns
returns c = names_are_printed
