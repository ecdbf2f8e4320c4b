use Rattle.std.proofs.Common.{◌≡◌, take}
use Rattle.bg_point.specs.Shelves.{stand}
use Rattle.bg_point.proofs.shelves.stand.Given as goal

abbrev pub invariant-loop-t : goal.invariant-loop-t
invariant-loop-t l = l.first ≡ stand l.order (take l.t-index l.entries)
