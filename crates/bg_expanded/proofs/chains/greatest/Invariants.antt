use Rattle.std.proofs.Common.{◌≡◌, drop, max}
use Rattle.bg_expanded.specs.Ranked.{greatest_of}
use Rattle.bg_expanded.proofs.chains.greatest.Given as goal

abbrev pub invariant-loop-n : goal.invariant-loop-n
invariant-loop-n l = max l.found (greatest_of (drop l.n-index l.numbers)) ≡ greatest_of l.numbers
