use Rattle.std.proofs.Common.{◌≡◌, map, take}
use Rattle.bg_scalar.specs.Values.{value_of}
use Rattle.bg_scalar.proofs.value.copies.Given as goal

abbrev pub invariant-loop-v : goal.invariant-loop-v
invariant-loop-v l = map value_of l.made.items ≡ map value_of (take l.v-index l.values)
