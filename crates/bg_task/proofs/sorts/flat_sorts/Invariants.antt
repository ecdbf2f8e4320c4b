use Rattle.std.proofs.Common.{◌≡◌, ◌++◌, drop, map}
use Rattle.bg_kinds.specs.Views.{ref_in}
use Rattle.bg_task.specs.Sorts.{flat_sort}
use Rattle.bg_task.proofs.sorts.flat_sorts.Given as goal

abbrev pub invariant-loop-t : goal.invariant-loop-t
invariant-loop-t l = l.made.items ++ map flat_sort (map ref_in (drop l.t-index l.kinds)) ≡ map flat_sort (map ref_in l.kinds)
