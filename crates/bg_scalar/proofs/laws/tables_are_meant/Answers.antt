use Rattle.bg_scalar.proofs.Tabled.{mean_tables}
use Rattle.bg_scalar.proofs.laws.tables_are_meant.Goals as goal

pub returns : goal.returns
returns c = mean_tables
