use Rattle.std.proofs.Common.{◌≡◌, ◌++◌, drop}
use Rattle.bg_point.specs.Points.{target_of}
use Rattle.bg_check.specs.Leaves.{unnamed_by}
use Rattle.bg_check.proofs.leaf.unnamed.Given as goal

abbrev pub invariant-loop-j : goal.invariant-loop-j
invariant-loop-j l =
    l.made.items ++ unnamed_by (target_of l.targets) l.j (drop l.j l.named) ≡ unnamed_by (target_of l.targets) 0 l.named
