use Rattle.std.proofs.Common.{◌≡◌, ◌++◌, map, drop}
use Rattle.bg_incarnate.specs.Arrived.{held_part, merge_from, after_from}
use Rattle.bg_incarnate.proofs.merge.merged.Given as goal

abbrev pub invariant-loop-i : goal.invariant-loop-i
invariant-loop-i l =
    (l.made.items ++ merge_from l.next l.i (drop l.i l.first) (map (held_part l.part) l.ways) ≡ merge_from l.fn.next 0 l.first (map (held_part l.part) l.ways))
    × (after_from l.next l.i (drop l.i l.first) (map (held_part l.part) l.ways) ≡ after_from l.fn.next 0 l.first (map (held_part l.part) l.ways))
