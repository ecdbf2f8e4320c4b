use Rattle.std.proofs.Common.{All}
use Rattle.bg_turns.specs.Turns.{IsOf}
use Rattle.bg_turns.proofs.turns.by_turns.Given as goal

abbrev pub invariant-loop : goal.invariant-loop
invariant-loop g l = All (IsOf g.F.Fn l.fn.f l.fn.n) l.made.items
