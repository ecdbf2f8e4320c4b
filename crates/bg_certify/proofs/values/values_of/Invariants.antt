use Rattle.std.proofs.Common.{◌≡◌, ◌++◌, map, drop}
use Rattle.bg_ast.specs.Views.{type_name_of}
use Rattle.bg_kinds.specs.Views.{ref_in}
use Rattle.bg_scalar.specs.Views.{vals_in}
use Rattle.bg_certtext.specs.Views as text
use Rattle.bg_certify.specs.Given.{type_names, values_of}
use Rattle.bg_certify.proofs.values.values_of.Given as goal

abbrev pub invariant-loop-k : goal.invariant-loop-k
invariant-loop-k l =
    map text.value_of l.made.items ++ values_of (type_names (map type_name_of l.types)) (drop l.k (map ref_in l.kinds)) (vals_in (drop l.k l.values))
    ≡ values_of (type_names (map type_name_of l.types)) (map ref_in l.kinds) (vals_in l.values)
