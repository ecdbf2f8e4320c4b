use Rattle.std.proofs.Common.{◌≡◌, ◌++◌, List, length}
use Rattle.bg_formula.specs.declared.atom.Literal.{Literal}
use Rattle.bg_clause.specs.Signs.{AreOnce}
use Rattle.bg_clause.proofs.few.distinct_few.Given as goal

abbrev pub invariant-loop-last : goal.invariant-loop-last
invariant-loop-last l = (done : List Literal) × (l.left ++ done ≡ l.ls) × AreOnce l.kept.items done

abbrev pub decreases-loop-last : goal.decreases-loop-last
decreases-loop-last l = length l.left
