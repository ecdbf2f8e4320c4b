use Rattle.std.proofs.Common.{map}
use Rattle.bg_pick.specs.Marks.{TrueBelow}
use Rattle.bg_pick.proofs.mark.open_from.Given as goal

abbrev pub invariant-loop-k : goal.invariant-loop-k
invariant-loop-k l = TrueBelow l.trail.decisions.items (map (λ c. c.items) l.clauses) l.k
