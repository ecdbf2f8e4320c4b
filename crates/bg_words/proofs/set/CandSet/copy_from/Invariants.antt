use Rattle.std.proofs.Common.{◌≡◌, ℕ, ◌<◌, get_or, length}
use Rattle.bg_words.proofs.set.CandSet.copy_from.Given as goal

abbrev pub invariant-loop-i : goal.invariant-loop-i
invariant-loop-i l = record {
  count : l.self-inside.n ≡ l.initial.self-inside.n;
  length : length l.self-inside.words.items ≡ length l.initial.self-inside.words.items;
  copied : (k : ℕ) → k < l.i → get_or l.self-inside.words.items k 0 ≡ get_or l.other-inside.words.items k 0;
}
