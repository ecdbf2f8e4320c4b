use Rattle.std.proofs.Common.{◌≡◌, true}
use Rattle.bg_words.specs.Sets.{tabulate}
use Rattle.bg_core.proofs.sets.all_of.Given as goal

abbrev pub invariant-loop-c : goal.invariant-loop-c
invariant-loop-c l = record { made : l.made ≡ tabulate l._c (λ k. true) }
