use Rattle.std.proofs.Common.{◌≡◌, ◌++◌, List, length}
use Rattle.bg_formula.specs.declared.atom.Literal.{Literal}
use Rattle.bg_clause.specs.Signs.{IsOnce}
use Rattle.bg_clause.proofs.clause.distinct_many.Given as goal

abbrev pub invariant-loop-last : goal.invariant-loop-last
invariant-loop-last l = (done : List Literal) × (l.left ++ done ≡ l.ls) × IsOnce l.once done

abbrev pub decreases-loop-last : goal.decreases-loop-last
decreases-loop-last l = length l.left
