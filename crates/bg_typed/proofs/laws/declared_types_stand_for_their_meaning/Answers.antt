use Rattle.bg_typed.proofs.Unfolded.{named_is}
use Rattle.bg_typed.proofs.laws.declared_types_stand_for_their_meaning.Goals as goal

pub returns : goal.returns
returns c = named_is
