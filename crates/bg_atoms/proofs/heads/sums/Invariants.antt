use Rattle.std.proofs.Common.{◌≡◌, ◌≤◌, true, length, take}
use Rattle.bg_atoms.specs.Heads.{all_arithmetic}
use Rattle.bg_atoms.proofs.heads.sums.Given as goal

abbrev pub invariant-loop-l : goal.invariant-loop-l
invariant-loop-l l = (l.n ≡ l.l-index) × (l.n ≤ length l.links) × (all_arithmetic (take l.l-index l.links) ≡ true)
