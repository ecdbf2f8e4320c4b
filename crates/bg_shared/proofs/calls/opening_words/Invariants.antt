use Rattle.std.proofs.Common.{◌≡◌, ℕ, ◌+◌, ◌*◌, ◌<◌, ◌≤◌, length, get_or, nat_lt, vec_capacity}
use Rattle.bg_words.specs.Sets.{bit}
use Rattle.bg_shared.proofs.calls.opening_words.Given as goal

abbrev pub invariant-loop-i : goal.invariant-loop-i
invariant-loop-i l = record {
  length : length l.words.items ≡ l.i + 1;
  room : l.count + 1 ≤ vec_capacity l.words;
  first : get_or l.words.items 0 0 ≡ 0;
  words : (j k : ℕ) → j < l.i → k < 64 → bit (get_or l.words.items (j + 1) 0) k ≡ nat_lt (j * 64 + k) l.cands;
}
