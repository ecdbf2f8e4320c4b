use Rattle.std.proofs.Common.{◌-◌, length, take}
use Rattle.bg_wanted.specs.Rows.{rows_of}
use Rattle.bg_wanted.specs.Firsts.{IsSoFar}
use Rattle.bg_wanted.proofs.first.first_rows.Given as goal

abbrev pub invariant-loop-i : goal.invariant-loop-i
invariant-loop-i l = IsSoFar l.known l.wrong.items (rows_of (take l.i l.rows))

abbrev pub decreases-loop-i : goal.decreases-loop-i
decreases-loop-i l = length l.rows - l.i
