use Rattle.std.proofs.Common.{◌≡◌, ℕ, ◌<◌, false}
use Rattle.bg_words.specs.Sets.{has}
use Rattle.bg_houdini.proofs.sets.none_of.Given as goal

abbrev pub invariant-loop-t : goal.invariant-loop-t
invariant-loop-t l = (c : ℕ) → c < l.t-index → has l.truths c ≡ false
