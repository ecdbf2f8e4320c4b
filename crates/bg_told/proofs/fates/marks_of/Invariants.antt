use Rattle.std.proofs.Common.{◌≡◌, ◌||◌, ◌<◌, ℕ, drop, length}
use Rattle.bg_told.specs.Fates.{has_place, truth_at}
use Rattle.bg_told.proofs.fates.marks_of.Given as goal

abbrev pub invariant-loop-place : goal.invariant-loop-place
invariant-loop-place l = record {
  many : length l.marks.items ≡ l.fn.count;
  each : (b : ℕ) → b < l.fn.count → (truth_at l.marks.items b || has_place b (drop l.place-index l.places)) ≡ has_place b l.places;
}
