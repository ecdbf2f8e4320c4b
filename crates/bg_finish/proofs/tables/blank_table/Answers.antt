use Rattle.std.proofs.Common.{map, ap}
use Rattle.bg_scalar.specs.Values.{value_of}
use Rattle.bg_finish.specs.Filled.{entry_in}
use Rattle.bg_finish.proofs.tables.blank_table.Goals as goal

pub returns : goal.returns
returns c = ap (λ es. record { entries = map entry_in es; default = value_of c.args.default }) c.new.ensures.empty
