use Rattle.std.proofs.Common.{◌≡◌, ◌++◌, drop}
use Rattle.bg_check.proofs.first.push_all.Given as goal

abbrev pub invariant-loop-line : goal.invariant-loop-line
invariant-loop-line l = l.made.items ++ drop l.line-index l.more ≡ l.fn.made.items ++ l.more
