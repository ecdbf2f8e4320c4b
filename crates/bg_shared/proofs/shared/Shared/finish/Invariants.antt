use Rattle.std.proofs.Common.{◌≡◌, ℕ, ◌+◌, ◌/◌, ◌%◌, ◌<◌, length}
use mathlib.Core.Option.{some}
use lib.ListN.{get_elem?}
use Rattle.std.specs.Slots.{slots_items}
use Rattle.bg_words.specs.Sets.{has, bit}
use Rattle.bg_shared.proofs.shared.Shared.finish.Given as goal

abbrev pub invariant-loop-i : goal.invariant-loop-i
invariant-loop-i l = record {
  size : length l.set ≡ length l.initial.set;
  words : (c w : ℕ) → c < length l.set → c / 64 < l.i → get_elem? (slots_items l.closed.words) (c / 64 + 1) ≡ some w → has l.set c ≡ bit w (c % 64);
}
