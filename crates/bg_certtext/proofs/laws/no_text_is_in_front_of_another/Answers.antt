use Rattle.bg_certtext.proofs.ReadsLaws.{no_text_in_front}
use Rattle.bg_certtext.proofs.laws.no_text_is_in_front_of_another.Goals as goal

pub returns : goal.returns
returns c = no_text_in_front
