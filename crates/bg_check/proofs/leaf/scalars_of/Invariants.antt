use Rattle.std.proofs.Common.{◌≡◌, ◌++◌, drop}
use Rattle.bg_check.specs.Leaves.{scalars_from}
use Rattle.bg_check.proofs.leaf.scalars_of.Given as goal

abbrev pub invariant-loop-j : goal.invariant-loop-j
invariant-loop-j l =
    l.made.items ++ scalars_from l.truths l.numbers l.j l.n (drop l.j l.sorts) ≡ scalars_from l.truths l.numbers 0 0 l.sorts
