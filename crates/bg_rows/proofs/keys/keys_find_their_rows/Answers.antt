use Rattle.bg_rows.specs.Rows.{RowOf}
use Rattle.bg_rows.specs.Keys.{key_of}
use Rattle.bg_rows.proofs.Keyed.{key_same}
use Rattle.bg_rows.proofs.keys.keys_find_their_rows.Goals as goal

pub returns : goal.returns
returns c = λ (r : RowOf). key_same (key_of r)
