use Rattle.std.proofs.Common.{◌≡◌, ◌-◌, ◌<◌, ℕ, drop, length}
use Rattle.bg_houdini.specs.Told.{first_of}
use Rattle.bg_told.specs.Fates.{entry_at}
use Rattle.bg_told.proofs.fates.firsts_of.Given as goal

abbrev pub invariant-loop-i : goal.invariant-loop-i
invariant-loop-i l = record {
  many : length l.firsts.items ≡ l.fn.count;
  each : (b : ℕ) → b < l.fn.count → entry_at l.firsts.items b ≡ first_of b (drop (length l.removals - l.i) l.removals);
}
