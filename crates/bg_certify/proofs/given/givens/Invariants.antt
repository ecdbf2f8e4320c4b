use Rattle.std.proofs.Common.{◌≡◌, ◌++◌, map, drop}
use Rattle.bg_ast.specs.Views.{type_name_of}
use Rattle.bg_kinds.specs.Views.{ref_in}
use Rattle.bg_certtext.specs.Views.{given_of}
use Rattle.bg_certify.proofs.Loops.{rest}
use Rattle.bg_certify.proofs.given.givens.Given as goal

abbrev pub invariant-loop-k : goal.invariant-loop-k
invariant-loop-k l =
    map given_of l.made.items ++ rest (map type_name_of l.types) (drop l.k l.constants) (drop l.k (map ref_in l.kinds)) (drop l.k l.values) ≡ rest (map type_name_of l.types) l.constants (map ref_in l.kinds) l.values
