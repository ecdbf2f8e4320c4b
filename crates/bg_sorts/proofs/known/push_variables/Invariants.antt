use Rattle.std.proofs.Common.{◌≡◌, ◌++◌, drop, map}
use Rattle.bg_ast.specs.Views.{var_of}
use Rattle.bg_kinds.specs.Views.{ref_in}
use Rattle.bg_sorts.specs.Views.{types_in}
use Rattle.bg_sorts.proofs.known.push_variables.Given as goal

abbrev pub invariant-loop-x : goal.invariant-loop-x
invariant-loop-x l =
    map ref_in l.made.items ++ map (types_in l.known) (map var_of (drop l.x-index l.xs)) ≡ map ref_in l.fn.made.items ++ map (types_in l.known) (map var_of l.xs)
