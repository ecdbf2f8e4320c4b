use Rattle.std.proofs.Common.{◌≡◌, map, drop}
use Rattle.bg_kinds.specs.Views.{ref_in}
use Rattle.bg_sorts.specs.Arrivals.{with_new}
use Rattle.bg_sorts.proofs.arrival.push_new.Given as goal

abbrev pub invariant-loop-i : goal.invariant-loop-i
invariant-loop-i l =
    with_new (drop l.i l.numbers) (map ref_in (drop l.i l.kinds)) (map ref_in l.made.items) ≡ with_new l.numbers (map ref_in l.kinds) (map ref_in l.fn.made.items)
