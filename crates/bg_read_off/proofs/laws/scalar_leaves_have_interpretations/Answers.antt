use Rattle.bg_read_off.proofs.Read.{read_off}
use Rattle.bg_read_off.proofs.laws.scalar_leaves_have_interpretations.Goals as goal

pub returns : goal.returns
returns c fs incs ts w none terms typed = read_off fs none incs ts terms w typed
