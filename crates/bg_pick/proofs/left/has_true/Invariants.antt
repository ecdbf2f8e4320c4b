use Rattle.std.proofs.Common.{◌≡◌, drop}
use Rattle.bg_cert.specs.Causes.{has_true}
use Rattle.bg_pick.proofs.left.has_true.Given as goal

abbrev pub invariant-loop-l : goal.invariant-loop-l
invariant-loop-l l = has_true l.trail.decisions.items (drop l.l-index l.clause) ≡ has_true l.trail.decisions.items l.clause
