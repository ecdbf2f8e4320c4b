use Rattle.bg_sense.proofs.TypedPrograms.{typed_safe}
use Rattle.bg_sense.proofs.laws.what_fails_at_no_place_is_safe.Goals as goal

pub returns : goal.returns
returns c = typed_safe
