use Rattle.std.proofs.Common.{◌≡◌, ◌++◌, map, drop, flat_map}
use Rattle.bg_certtext.specs.Views.{slot_of}
use Rattle.bg_certtext.specs.Rows.{row_front, slot_rows}
use Rattle.bg_certtext.proofs.functions.+put_value.Given as goal

abbrev pub invariant-put_slots-loop-slot : goal.invariant-put_slots-loop-slot
invariant-put_slots-loop-slot l =
    l.out.items ++ flat_map row_front (slot_rows (map slot_of (drop l.slot-index l.slots)))
    ≡ l.initial.out.items ++ flat_map row_front (slot_rows (map slot_of l.slots))
