use Rattle.std.proofs.Common.{◌≤◌}
use Rattle.bg_clause.specs.declared.lent.Lent.{size-Lent}
use Rattle.bg_clause.proofs.lent.Lent.+drop.Given as goal

abbrev pub invariant-loop-self : goal.invariant-loop-self
invariant-loop-self l = size-Lent l.self ≤ size-Lent l.fn.self
