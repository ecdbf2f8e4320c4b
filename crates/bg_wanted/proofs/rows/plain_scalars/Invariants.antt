use Rattle.std.proofs.Common.{◌≡◌, take}
use Rattle.bg_scalar.specs.Views.{vals_in}
use Rattle.bg_wanted.specs.Scalars.{scalars_in}
use Rattle.bg_wanted.proofs.rows.plain_scalars.Given as goal

abbrev pub invariant-loop-v : goal.invariant-loop-v
invariant-loop-v l = scalars_in l.made.items ≡ vals_in (take l.v-index l.values)
