use Rattle.std.proofs.Common.{◌≡◌, drop}
use Rattle.bg_houdini.specs.Told.{are_known}
use Rattle.bg_told.proofs.fates.is_greatest.Given as goal

abbrev pub invariant-loop-removal : goal.invariant-loop-removal
invariant-loop-removal l = are_known l.removals ≡ are_known (drop l.removal-index l.removals)
