use Rattle.std.proofs.Common.{◌≡◌, take, map}
use Rattle.bg_ast.specs.Views.{ex_of, st_of}
use Rattle.bg_opening.specs.Desks.{opened_at}
use Rattle.bg_opening.specs.Views.{assuming}
use Rattle.bg_opening.proofs.whole.assumed.Given as goal

abbrev pub invariant-loop-e : goal.invariant-loop-e
invariant-loop-e l =
    map st_of l.made.items ≡ map assuming (map (opened_at l.desk) (map ex_of (take l.e-index l.axioms)))
