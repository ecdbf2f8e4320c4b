use Rattle.std.proofs.Common.{◌≡◌, length}
use Rattle.bg_places.specs.Views.{spot_of}
use Rattle.bg_formed.specs.Views.{form_cmds_of}
use Rattle.bg_clause.specs.Cutting.{ahead_of, cut_cmds}
use Rattle.bg_clause.proofs.fails.cut_cmds.Given as goal

abbrev pub invariant-loop-last : goal.invariant-loop-last
invariant-loop-last l =
    cut_cmds l.units (spot_of l.target) (form_cmds_of l.left) (ahead_of l.made) ≡ cut_cmds l.units (spot_of l.target) (form_cmds_of l.cmds) (ahead_of l.fn.ahead)

abbrev pub decreases-loop-last : goal.decreases-loop-last
decreases-loop-last l = length l.left
