use Rattle.std.proofs.Common.{◌≡◌, drop, map}
use Rattle.bg_ast.specs.Views.{type_name_of}
use Rattle.bg_kinds.specs.Views.{ref_in}
use Rattle.bg_confirm.specs.Pairs.{each_fits}
use Rattle.bg_confirm.specs.Named.{given_fits}
use Rattle.bg_confirm.proofs.values.are_given.Given as goal

abbrev pub invariant-loop-k : goal.invariant-loop-k
invariant-loop-k l =
    each_fits (given_fits (map type_name_of l.types)) (map ref_in (drop l.k l.kinds)) (drop l.k l.given)
    ≡ each_fits (given_fits (map type_name_of l.types)) (map ref_in l.kinds) l.given
