use Rattle.std.proofs.Common.{◌≡◌, ◌++◌, map, drop}
use Rattle.bg_ast.specs.Views.{type_name_of}
use Rattle.bg_kinds.specs.Views.{key_of}
use Rattle.bg_certtext.specs.Views as text
use Rattle.bg_certify.specs.Given.{type_names, index_of}
use Rattle.bg_certify.proofs.values.index_of.Given as goal

abbrev pub invariant-loop-i : goal.invariant-loop-i
invariant-loop-i l =
    map text.part_of l.made.items ++ index_of (type_names (map type_name_of l.types)) (drop l.i (map key_of l.keys)) (drop l.i l.key)
    ≡ index_of (type_names (map type_name_of l.types)) (map key_of l.keys) l.key
