use Rattle.std.proofs.Common.{◌≡◌, map, take}
use Rattle.bg_ast.specs.Views.{type_name_of}
use Rattle.bg_kinds.specs.Views.{key_of, ref_of}
use Rattle.bg_scalar.specs.Maps.{entry_in}
use Rattle.bg_certtext.specs.Views.{slot_of}
use Rattle.bg_certify.specs.Given.{type_names, slot_for}
use Rattle.bg_certify.proofs.values.+value_of.Given as goal

abbrev pub invariant-slots_of-loop-e : goal.invariant-slots_of-loop-e
invariant-slots_of-loop-e l =
    map slot_of l.made.items ≡ map (slot_for (type_names (map type_name_of l.types)) (map key_of l.keys) (ref_of l.t)) (map entry_in (take l.e-index l.entries))
