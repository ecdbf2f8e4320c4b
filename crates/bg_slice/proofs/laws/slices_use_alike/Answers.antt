use Rattle.bg_slice.proofs.Using.{use_alike}
use Rattle.bg_slice.proofs.laws.slices_use_alike.Goals as goal

pub returns : goal.returns
returns c t bs = use_alike t bs
