use Rattle.bg_typed.proofs.Unfolded.{kind_is}
use Rattle.bg_typed.proofs.laws.written_types_stand_for_their_meaning.Goals as goal

pub returns : goal.returns
returns c = kind_is
