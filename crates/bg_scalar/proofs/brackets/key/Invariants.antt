use Rattle.std.proofs.Common.{◌≡◌, drop}
use Rattle.bg_scalar.specs.Views.{vals_in}
use Rattle.bg_scalar.specs.Indices.{index_in}
use Rattle.bg_scalar.proofs.Keyed.{onto_key}
use Rattle.bg_scalar.proofs.brackets.key.Given as goal

abbrev pub invariant-loop-v : goal.invariant-loop-v
invariant-loop-v l = onto_key l.made.items (index_in (vals_in (drop l.v-index l.index))) ≡ index_in (vals_in l.index)
