use Rattle.std.proofs.Common.{◌≡◌}
use Rattle.bg_forms.specs.Views.{form_in}
use Rattle.bg_clause.specs.Views.{clauses_in}
use Rattle.bg_clause.specs.Waiting.{IsLeft, size}
use Rattle.bg_clause.proofs.fronts.form_front.Given as goal

abbrev pub invariant-loop-left : goal.invariant-loop-left
invariant-loop-left l =
    IsLeft l.fn.literals.items (form_in l.fn.f) (form_in l.left) (clauses_in l.fn.out.items) (clauses_in l.out.items)
    × (l.literals.items ≡ l.fn.literals.items)

abbrev pub decreases-loop-left : goal.decreases-loop-left
decreases-loop-left l = size (form_in l.left)
