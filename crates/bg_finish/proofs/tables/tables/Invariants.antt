use Rattle.std.proofs.Common.{◌-◌, length, map}
use Rattle.bg_kinds.specs.Views.{ref_in}
use Rattle.bg_scalar.specs.Views.{vals_in}
use Rattle.bg_finish.specs.Filled.{blanks}
use Rattle.bg_finish.proofs.Held.{AreSoFar}
use Rattle.bg_finish.proofs.tables.tables.Given as goal

abbrev pub invariant-loop-i : goal.invariant-loop-i
invariant-loop-i l =
    AreSoFar (vals_in l.values) l.terms l.rows (length l.around.incarnations.now) (blanks (map ref_in l.around.results.now)) l.i l.made.items

abbrev pub decreases-loop-i : goal.decreases-loop-i
decreases-loop-i l = length l.terms - l.i
