use Rattle.bg_keep.proofs.Spelled.{kept_spelled}
use Rattle.bg_keep.proofs.laws.what_is_kept_is_spelled.Goals as goal

pub returns : goal.returns
returns c = kept_spelled
