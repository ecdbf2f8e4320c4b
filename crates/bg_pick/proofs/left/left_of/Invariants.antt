use Rattle.std.proofs.Common.{◌≡◌, drop}
use Rattle.bg_cert.specs.Causes.{undecided}
use Rattle.bg_pick.specs.Picks.{left_of, join_left}
use Rattle.bg_pick.proofs.left.left_of.Given as goal

abbrev pub invariant-loop-l : goal.invariant-loop-l
invariant-loop-l l = join_left l.left (left_of (undecided l.trail.decisions.items (drop l.l-index l.clause))) ≡ left_of (undecided l.trail.decisions.items l.clause)
