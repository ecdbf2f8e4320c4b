use Rattle.std.proofs.Common.{◌+◌, ◌-◌, length}
use Rattle.bg_elim.specs.Columns.{Keeps}
use Rattle.bg_elim.proofs.columns.extend.Given as goal

abbrev pub invariant-loop-alloc : goal.invariant-loop-alloc
invariant-loop-alloc l = Keeps l.initial.lists.items l.lists.items

abbrev pub decreases-loop-alloc : goal.decreases-loop-alloc
decreases-loop-alloc l = l.p + 1 - length l.lists.items
