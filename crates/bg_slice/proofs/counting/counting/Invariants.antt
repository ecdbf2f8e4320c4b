use Rattle.std.proofs.Common.{length}
use Rattle.bg_places.specs.Views.{spot_of}
use Rattle.bg_formed.specs.Seen.{use_of}
use Rattle.bg_formed.specs.Views.{form_cmds_of}
use Rattle.bg_slice.proofs.Fronts.{IsLeft}
use Rattle.bg_slice.proofs.counting.counting.Given as goal

abbrev pub invariant-loop-last : goal.invariant-loop-last
invariant-loop-last l =
    IsLeft (spot_of l.target) (form_cmds_of l.cmds) (use_of l.fn.u) (form_cmds_of l.left)

abbrev pub decreases-loop-last : goal.decreases-loop-last
decreases-loop-last l = length l.left
