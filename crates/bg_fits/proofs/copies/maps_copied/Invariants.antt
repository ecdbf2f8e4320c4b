use Rattle.std.proofs.Common.{◌≡◌, ◌++◌, map, drop}
use Rattle.bg_kinds.specs.Views.{keys_of}
use Rattle.bg_fits.proofs.copies.maps_copied.Given as goal

abbrev pub invariant-loop-k : goal.invariant-loop-k
invariant-loop-k l = (map keys_of l.made.items ++ map keys_of (drop l.k-index l.maps)) ≡ map keys_of l.maps
