use Rattle.std.proofs.Common.{◌≡◌, ◌*◌}
use Rattle.bg_base.specs.Totals.{total, weight}
use Rattle.bg_words.specs.Sets.{tabulate, present}
use Rattle.bg_words.proofs.set.CandSet.count.Given as goal

abbrev pub invariant-loop-i : goal.invariant-loop-i
invariant-loop-i l = record { counted : l.count ≡ total weight (tabulate (64 * l.i) (present l.self-inside.words.items)) }
