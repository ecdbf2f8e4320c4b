use Rattle.std.proofs.Common.{◌≡◌, drop, max}
use Rattle.bg_expanded.specs.Ranked.{greatest_at}
use Rattle.bg_expanded.proofs.chains.greatest_at.Given as goal

abbrev pub invariant-loop-f : goal.invariant-loop-f
invariant-loop-f l = max l.found (greatest_at l.deep (drop l.f-index l.row)) ≡ greatest_at l.deep l.row
