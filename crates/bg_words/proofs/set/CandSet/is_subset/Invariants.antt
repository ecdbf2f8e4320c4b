use Rattle.std.proofs.Common.{◌≡◌, ℕ, ◌/◌, ◌<◌, true}
use Rattle.bg_words.specs.Sets.{present}
use Rattle.bg_words.proofs.set.CandSet.is_subset.Given as goal

abbrev pub invariant-loop-i : goal.invariant-loop-i
invariant-loop-i l = (c : ℕ) → c / 64 < l.i → present l.self-inside.words.items c ≡ true → present l.other-inside.words.items c ≡ true
