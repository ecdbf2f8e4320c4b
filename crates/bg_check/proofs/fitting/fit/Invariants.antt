use Rattle.std.proofs.Common.{◌≡◌, drop, map}
use Rattle.bg_sense.specs.Types.{are_of}
use Rattle.bg_kinds.specs.Views.{ref_in}
use Rattle.bg_scalar.specs.Views.{vals_in}
use Rattle.bg_check.proofs.fitting.fit.Given as goal

abbrev pub invariant-loop-i : goal.invariant-loop-i
invariant-loop-i l =
    are_of (map ref_in (drop l.i l.kinds)) (vals_in (drop l.i l.values)) ≡ are_of (map ref_in l.kinds) (vals_in l.values)
