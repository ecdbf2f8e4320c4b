use Rattle.std.proofs.Common.{◌≡◌, take}
use Rattle.bg_scalar.specs.Views.{vals_in}
use Rattle.bg_wanted.specs.Scalars.{scalars_in}
use Rattle.bg_wanted.proofs.rows.plain_values.Given as goal

abbrev pub invariant-loop-s : goal.invariant-loop-s
invariant-loop-s l = vals_in l.made.items ≡ scalars_in (take l.s-index l.scalars)
