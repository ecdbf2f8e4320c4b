use Rattle.std.proofs.Common.{◌≡◌, ◌-◌, length, take}
use Rattle.bg_wanted.specs.Scalars.{key_of}
use Rattle.bg_wanted.proofs.tables.index.Given as goal

abbrev pub invariant-loop-j : goal.invariant-loop-j
invariant-loop-j l = l.made.items ≡ key_of (take l.j l.scalars)

abbrev pub decreases-loop-j : goal.decreases-loop-j
decreases-loop-j l = length l.scalars - l.j
