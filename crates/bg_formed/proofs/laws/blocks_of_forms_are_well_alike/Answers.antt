use Rattle.bg_formed.proofs.Alike.{alike}
use Rattle.bg_formed.proofs.laws.blocks_of_forms_are_well_alike.Goals as goal

pub returns : goal.returns
returns c set t w values bs fs = alike set w t values bs fs
