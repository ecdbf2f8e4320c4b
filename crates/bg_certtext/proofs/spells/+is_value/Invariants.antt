use Rattle.std.proofs.Common.{◌≡◌, map, drop}
use Rattle.std.specs.List.{list_all}
use Rattle.bg_certtext.specs.Views.{slot_of}
use Rattle.bg_certtext.specs.Orders.{is_item}
use Rattle.bg_certtext.proofs.spells.+is_value.Given as goal

abbrev pub invariant-are_items-loop-slot : goal.invariant-are_items-loop-slot
invariant-are_items-loop-slot l = list_all is_item (map slot_of (drop l.slot-index l.slots)) ≡ list_all is_item (map slot_of l.slots)
