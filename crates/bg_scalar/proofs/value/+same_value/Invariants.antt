use Rattle.std.proofs.Common.{◌≡◌, map, drop}
use Rattle.bg_scalar.specs.Maps.{entry_in, entries_eq}
use Rattle.bg_scalar.proofs.value.+same_value.Given as goal

abbrev pub invariant-are_same-loop-i : goal.invariant-are_same-loop-i
invariant-are_same-loop-i l =
    entries_eq (map entry_in (drop l.i l.xs)) (map entry_in (drop l.i l.ys)) ≡ entries_eq (map entry_in l.xs) (map entry_in l.ys)
