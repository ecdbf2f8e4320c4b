use Rattle.std.proofs.Common.{◌≡◌, map, take}
use Rattle.bg_kinds.specs.Views.{ref_of}
use Rattle.bg_scalar.specs.Maps.{entry_in}
use Rattle.bg_certtext.specs.Views.{slot_of}
use Rattle.bg_confirm.specs.Met.{entry_for}
use Rattle.bg_confirm.proofs.values.+value_in.Given as goal

abbrev pub invariant-entries_in-loop-slot : goal.invariant-entries_in-loop-slot
invariant-entries_in-loop-slot l =
    map entry_in l.made.items ≡ map (entry_for (ref_of l.t)) (map slot_of (take l.slot-index l.slots))
