use Rattle.std.proofs.Common.{◌≡◌, ◌++◌, map, drop}
use Rattle.bg_kinds.specs.Views.{ref_in}
use Rattle.bg_fits.proofs.copies.push_copies.Given as goal

abbrev pub invariant-loop-t : goal.invariant-loop-t
invariant-loop-t l = map ref_in l.made.items ++ map ref_in (drop l.t-index l.kinds) ≡ map ref_in l.fn.made.items ++ map ref_in l.kinds
