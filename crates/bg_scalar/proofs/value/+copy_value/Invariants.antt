use Rattle.std.proofs.Common.{◌≡◌, map, take}
use Rattle.bg_scalar.specs.Maps.{entry_in}
use Rattle.bg_scalar.proofs.value.+copy_value.Given as goal

abbrev pub invariant-copy_all-loop-e : goal.invariant-copy_all-loop-e
invariant-copy_all-loop-e l = map entry_in l.made.items ≡ map entry_in (take l.e-index l.entries)
