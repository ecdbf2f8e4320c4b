use Rattle.std.proofs.Common.{◌≡◌, ◌++◌, map}
use Rattle.bg_clause.specs.Emitted.{after, emitted}
use Rattle.bg_clause.specs.Lends.{lent_in}
use Rattle.bg_clause.specs.Views.{clauses_in}
use Rattle.bg_clause.specs.Waiting.{waits_of, emitted_all, after_all, size_all}
use Rattle.bg_clause.proofs.emit.emit.Given as goal

abbrev pub invariant-loop-w : goal.invariant-loop-w
invariant-loop-w l =
    (clauses_in l.out.items ++ emitted_all (map waits_of l.waiting.items) l.next ≡ clauses_in l.fn.out.items ++ emitted l.fn.literals.items (lent_in l.fn.f) l.fn.next)
    × (after_all (map waits_of l.waiting.items) l.next ≡ after (lent_in l.fn.f) l.fn.next)

abbrev pub decreases-loop-w : goal.decreases-loop-w
decreases-loop-w l = size_all (map waits_of l.waiting.items)
