use Rattle.std.proofs.Common.{◌≡◌, None, map, drop}
use Rattle.bg_text.specs.Views.{option_of}
use Rattle.bg_certtext.specs.Views.{value_of, slot_of}
use Rattle.bg_certtext.specs.Spellable.{are_slots}
use Rattle.bg_certtext.proofs.sorted.are_slots.Given as goal

abbrev pub invariant-loop-slot : goal.invariant-loop-slot
invariant-loop-slot l = are_slots (option_of (λ s. (slot_of s.now).0) l.before) (value_of l.default) (map slot_of (drop l.slot-index l.slots)) ≡ are_slots None (value_of l.default) (map slot_of l.slots)
