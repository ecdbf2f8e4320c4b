use Rattle.std.proofs.Common.{◌≡◌, ◌++◌, List, map}
use Rattle.bg_ast.specs.Values.{Val}
use Rattle.bg_model.specs.Picks.{choice_by}
use Rattle.bg_model.specs.Fronts.{chosen_from}
use Rattle.bg_model.proofs.choose.choose.Given as goal

abbrev pub invariant-loop-left : goal.invariant-loop-left
invariant-loop-left l =
    (vs : List Val) → map (choice_by vs) l.made.items ++ chosen_from vs l.j l.left ≡ map (choice_by vs) l.fn.made.items ++ chosen_from vs l.first l.many

abbrev pub decreases-loop-left : goal.decreases-loop-left
decreases-loop-left l = l.left
