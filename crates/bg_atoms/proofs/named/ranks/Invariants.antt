use Rattle.std.proofs.Common.{◌≡◌, ◌++◌, drop}
use Rattle.bg_atoms.specs.Ranks.{ranks_from}
use Rattle.bg_atoms.proofs.named.ranks.Given as goal

abbrev pub invariant-loop-s : goal.invariant-loop-s
invariant-loop-s l = l.made.items ++ ranks_from l.next (drop l.s-index l.sorts) ≡ ranks_from 0 l.sorts
