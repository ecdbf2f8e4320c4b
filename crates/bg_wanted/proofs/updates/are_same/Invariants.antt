use Rattle.std.proofs.Common.{◌≡◌, ◌-◌, length, drop}
use Rattle.bg_sense.specs.Eval.{vals_eq}
use Rattle.bg_wanted.specs.Scalars.{scalars_in}
use Rattle.bg_wanted.proofs.updates.are_same.Given as goal

abbrev pub invariant-loop-i : goal.invariant-loop-i
invariant-loop-i l =
    vals_eq (scalars_in (drop l.i l.xs)) (scalars_in (drop l.i l.ys)) ≡ vals_eq (scalars_in l.xs) (scalars_in l.ys)

abbrev pub decreases-loop-i : goal.decreases-loop-i
decreases-loop-i l = length l.xs - l.i
