-- How values are seen, at the lists that code meets.
use Rattle.std.proofs.Common.{◌≡◌, map, refl, ap, ◌∙◌, Vec, Box, Global}
use mathlib.Core.Former.{Count}
use Rattle.bg_certtext.specs.declared.text.Value.{Value, Row_of-Slot, end_of-Slot, more_of-Slot, items-the_row-Slot, items_hidden-the_row-Slot-0}
use Rattle.bg_certtext.specs.declared.text.Value.TheVariants as value
use Rattle.bg_certtext.specs.declared.text.Slot as kept
use Rattle.bg_certtext.specs.Views.{ValueOf, Default, Slot, part_of, value_of, slotted, slot_of, with_slots}

slots_row : (n : _) (row : Row_of-Slot n) (m : ValueOf) → slotted row m ≡ with_slots (map slot_of (items-the_row-Slot n row)) m
slots_row n end_of-Slot m = refl
slots_row n (more_of-Slot k v ss) m = ap (Slot (map part_of k.items) (value_of v)) (slots_row _ ss m)

abbrev slots_in : Value → (n : Count) × Row_of-Slot n
slots_in (value.Map' shape row p d) = (_, row)
slots_in _ = (_, end_of-Slot)

pub value_of-Map : (ss : Vec kept.Slot Global) (d : Box Value Global) → value_of (value.Map ss d) ≡ with_slots (map slot_of ss.items) (Default (value_of d.value))
value_of-Map ss d =
    let row = slots_in (value.Map ss d) in
    slots_row row.0 row.1 (Default (value_of d.value))
    ∙ ap (λ l. with_slots (map slot_of l) (Default (value_of d.value))) (items_hidden-the_row-Slot-0 ss)

pub ruleset map_forms = (value_of-Map)
