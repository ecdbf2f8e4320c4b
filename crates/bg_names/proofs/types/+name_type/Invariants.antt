use Rattle.std.proofs.Common.{◌≡◌, map, flat_map, drop, take}
use Rattle.bg_ast.specs.Views.{type_of, index_view}
use Rattle.bg_names.specs.Faults.{better}
use Rattle.bg_names.specs.Views.{listed, first_of, type_faults, named_type, bracket_type_faults, named_type_bracket}
use Rattle.bg_names.proofs.types.+name_type.Given as goal

abbrev pub invariant-tys-loop-e : goal.invariant-tys-loop-e
invariant-tys-loop-e l =
    (map type_of l.made.items ≡ map (named_type (listed l.types)) (take l.e-index l.es))
    × (better (first_of l.notes) (flat_map (type_faults (listed l.types)) (drop l.e-index l.es)) ≡ better (first_of l.fn.notes) (flat_map (type_faults (listed l.types)) l.es))

abbrev pub invariant-indices-loop-b : goal.invariant-indices-loop-b
invariant-indices-loop-b l =
    (map index_view l.made.items ≡ map (named_type_bracket (listed l.types)) (take l.b-index l.brackets))
    × (better (first_of l.notes) (flat_map (bracket_type_faults (listed l.types)) (drop l.b-index l.brackets)) ≡ better (first_of l.fn.notes) (flat_map (bracket_type_faults (listed l.types)) l.brackets))
