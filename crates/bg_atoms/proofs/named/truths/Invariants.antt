use Rattle.std.proofs.Common.{◌≡◌, ◌+◌, drop}
use Rattle.bg_atoms.specs.Ranks.{truths}
use Rattle.bg_atoms.proofs.named.truths.Given as goal

abbrev pub invariant-loop-s : goal.invariant-loop-s
invariant-loop-s l = l.made + truths (drop l.s-index l.sorts) ≡ truths l.sorts
