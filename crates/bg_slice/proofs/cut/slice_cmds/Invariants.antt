use Rattle.std.proofs.Common.{◌≡◌, ◌++◌, length}
use Rattle.std.specs.Prelude.{reverse}
use Rattle.bg_places.specs.Views.{spot_of}
use Rattle.bg_formed.specs.Seen.{use_of}
use Rattle.bg_formed.specs.Views.{form_cmds_of}
use Rattle.bg_slice.specs.Slices.{slice_cmds}
use Rattle.bg_slice.proofs.cut.slice_cmds.Given as goal

abbrev pub invariant-loop-last : goal.invariant-loop-last
invariant-loop-last l =
    slice_cmds (spot_of l.target) (form_cmds_of l.left) (use_of l.behind) ++ form_cmds_of (reverse l.made.items) ≡ slice_cmds (spot_of l.target) (form_cmds_of l.cmds) (use_of l.fn.u)

abbrev pub decreases-loop-last : goal.decreases-loop-last
decreases-loop-last l = length l.left
