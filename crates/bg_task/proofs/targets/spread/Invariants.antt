use Rattle.std.proofs.Common.{◌≡◌, ◌++◌, map, drop}
use Rattle.bg_kinds.specs.Views.{ref_in}
use Rattle.bg_task.specs.Targets.{spread_from}
use Rattle.bg_task.specs.Spread.{both}
use Rattle.bg_task.proofs.targets.spread.Given as goal

abbrev pub invariant-loop-i : goal.invariant-loop-i
invariant-loop-i l =
    l.s.made.items ++ spread_from l.s.next (both (drop l.i (map ref_in l.kinds)) (drop l.i l.marks)) ≡ l.fn.s.made.items ++ spread_from l.fn.s.next (both (map ref_in l.kinds) l.marks)
