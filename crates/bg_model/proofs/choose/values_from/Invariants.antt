use Rattle.std.proofs.Common.{◌≡◌, ◌++◌, map}
use Rattle.bg_sense.specs.Eval.{value_at}
use Rattle.bg_sense.specs.Variables.{count_from}
use Rattle.bg_scalar.specs.Values.{value_of}
use Rattle.bg_model.proofs.choose.values_from.Given as goal

abbrev pub invariant-loop-left : goal.invariant-loop-left
invariant-loop-left l =
    map value_of l.made.items ++ map (value_at (map value_of l.values)) (count_from l.j l.left) ≡ map (value_at (map value_of l.values)) (count_from l.first l.many)

abbrev pub decreases-loop-left : goal.decreases-loop-left
decreases-loop-left l = l.left
