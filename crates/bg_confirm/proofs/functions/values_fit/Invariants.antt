use Rattle.std.proofs.Common.{◌≡◌, map, drop}
use Rattle.bg_ast.specs.Views.{type_name_of}
use Rattle.bg_kinds.specs.Views.{ref_in}
use Rattle.bg_certtext.specs.Views.{value_of}
use Rattle.bg_confirm.specs.Pairs.{each_fits}
use Rattle.bg_confirm.specs.Typed.{values_fit}
use Rattle.bg_confirm.proofs.Each.{kind_fits}
use Rattle.bg_confirm.proofs.functions.values_fit.Given as goal

abbrev pub invariant-loop-k : goal.invariant-loop-k
invariant-loop-k l =
    each_fits (kind_fits (map type_name_of l.types)) (drop l.k l.kinds) (drop l.k l.values)
    ≡ values_fit (map type_name_of l.types) (map ref_in l.kinds) (map value_of l.values)
