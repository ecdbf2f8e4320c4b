use Rattle.bg_scalar.proofs.Tabled.{said_typed}
use Rattle.bg_scalar.proofs.laws.tables_are_typed.Goals as goal

pub returns : goal.returns
returns c = said_typed
