use Rattle.std.proofs.Common.{ap, ◌∙◌}
use Rattle.bg_scalar.specs.Values.{value_of}
use Rattle.bg_scalar.specs.Worths.{is_table}
use Rattle.bg_scalar.proofs.Operands.{is_table-Map}
use Rattle.bg_wanted.proofs.rows.scalar_in.Goals as goal

pub returns-in-Map : goal.returns-in-Map
returns-in-Map c = ap (λ v. is_table (value_of v)) c.in-Map.is ∙ is_table-Map c.in-Map.field-0 c.in-Map.field-1
