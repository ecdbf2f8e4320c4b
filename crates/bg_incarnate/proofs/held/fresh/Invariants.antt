use Rattle.std.proofs.Common.{◌≡◌, ◌+◌, ◌-◌, ◌++◌}
use Rattle.bg_sense.specs.Variables.{count_from}
use Rattle.bg_incarnate.proofs.held.fresh.Given as goal

abbrev pub invariant-loop-k : goal.invariant-loop-k
invariant-loop-k l =
    (l.made.items ++ count_from l.next (l.n - l.k) ≡ count_from l.fn.next l.n)
    × (l.next + (l.n - l.k) ≡ l.fn.next + l.n)
