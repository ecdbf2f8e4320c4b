use Rattle.bg_rows.proofs.Keyed.{equal_keys as law}
use Rattle.bg_rows.proofs.keys.equal_keys_are_of_equal_rows.Goals as goal

pub returns : goal.returns
returns c = law
