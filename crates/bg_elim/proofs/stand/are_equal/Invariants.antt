use Rattle.std.proofs.Common.{◌≡◌, drop}
use Rattle.bg_elim.specs.Kept.{entries_eq}
use Rattle.bg_elim.proofs.stand.are_equal.Given as goal

abbrev pub invariant-loop-i : goal.invariant-loop-i
invariant-loop-i l = entries_eq (drop l.i l.a) (drop l.i l.b) ≡ entries_eq l.a l.b
