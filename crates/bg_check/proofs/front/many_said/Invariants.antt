use Rattle.std.proofs.Common.{◌≡◌, ◌+◌, drop}
use Rattle.bg_check.proofs.Fronting.{many}
use Rattle.bg_check.proofs.front.many_said.Given as goal

abbrev pub invariant-loop-line : goal.invariant-loop-line
invariant-loop-line l = l.n + many (drop l.line-index l.lines) ≡ many l.lines
