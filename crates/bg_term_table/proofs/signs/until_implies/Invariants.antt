use Rattle.std.proofs.Common.{◌≡◌, ◌≤◌, ◌+◌, length, drop}
use Rattle.bg_term_table.specs.Until.{until_implies}
use Rattle.bg_term_table.proofs.signs.until_implies.Given as goal

abbrev pub invariant-loop-l : goal.invariant-loop-l
invariant-loop-l l = (l.n ≡ l.l-index) × (l.n ≤ length l.links) × (l.n + until_implies (drop l.l-index l.links) ≡ until_implies l.links)
