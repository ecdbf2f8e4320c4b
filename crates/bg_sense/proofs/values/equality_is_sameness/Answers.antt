use Rattle.bg_sense.proofs.MapLaws.{val_eq_is_same}
use Rattle.bg_sense.proofs.values.equality_is_sameness.Goals as goal

pub returns : goal.returns
returns c = val_eq_is_same
