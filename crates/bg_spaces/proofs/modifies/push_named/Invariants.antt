use Rattle.std.proofs.Common.{◌≡◌, ◌++◌, map, flat_map, drop}
use Rattle.bg_text.specs.Views as v
use Rattle.bg_spaces.specs.Declarations.{global_in, value_of}
use Rattle.bg_names.specs.Views.{listed}
use Rattle.bg_spaces.proofs.modifies.push_named.Given as goal

abbrev pub invariant-loop-name : goal.invariant-loop-name
invariant-loop-name l =
    l.out.items ++ flat_map (λ x. global_in (value_of (listed l.values.names) l.values.meanings.items x.text)) (map v.id_of (drop l.name-index l.names))
    ≡ l.fn.out.items ++ flat_map (λ x. global_in (value_of (listed l.values.names) l.values.meanings.items x.text)) (map v.id_of l.names)
