use Rattle.std.proofs.Common.{◌≡◌, drop, map}
use Rattle.bg_ast.specs.Views.{type_name_of}
use Rattle.bg_kinds.specs.Views.{key_of, ref_of}
use Rattle.bg_certtext.specs.Views.{slot_of}
use Rattle.bg_confirm.specs.Typed.{slots_fit}
use Rattle.bg_confirm.proofs.values.+fits.Given as goal

abbrev pub invariant-slots_fit-loop-slot : goal.invariant-slots_fit-loop-slot
invariant-slots_fit-loop-slot l =
    slots_fit (map type_name_of l.types) (map key_of l.keys) (ref_of l.t) (map slot_of (drop l.slot-index l.slots))
    ≡ slots_fit (map type_name_of l.types) (map key_of l.keys) (ref_of l.t) (map slot_of l.slots)
