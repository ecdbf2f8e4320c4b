use Rattle.std.proofs.Common.{◌-◌, length}
use Rattle.bg_wanted.specs.Selects.{HasSelects}
use Rattle.bg_wanted.specs.Asked.{looked_rows, Goes}
use Rattle.bg_wanted.proofs.Going.{RightSoFar}
use Rattle.bg_wanted.proofs.updates.ask_all.Given as goal

abbrev pub invariant-loop-u : goal.invariant-loop-u
invariant-loop-u l =
    HasSelects l.looked.selects.now (looked_rows l.looked) → Goes l.looked l.initial.wants l.wants (RightSoFar l.looked l.u)

abbrev pub decreases-loop-u : goal.decreases-loop-u
decreases-loop-u l = length l.looked.rows.now - l.u
