use Rattle.std.proofs.Common.{◌≡◌}
use Rattle.bg_clause.specs.Lends.{lent_in}
use Rattle.bg_clause.specs.Views.{clauses_in}
use Rattle.bg_clause.specs.Waiting.{IsLeft, size}
use Rattle.bg_clause.proofs.fronts.say_true.Given as goal

abbrev pub invariant-loop-x : goal.invariant-loop-x
invariant-loop-x l =
    IsLeft l.fn.literals.items (lent_in l.fn.f) (lent_in l.left) (clauses_in l.fn.out.items) (clauses_in l.out.items)
    × ((l.literals.items ≡ l.fn.literals.items)
    × (l.waiting.items ≡ l.fn.waiting.items))

abbrev pub decreases-loop-x : goal.decreases-loop-x
decreases-loop-x l = size (lent_in l.left)
