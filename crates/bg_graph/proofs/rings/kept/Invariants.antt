use Rattle.std.proofs.Common.{ℕ, ◌<◌, ◌≤◌, length, get_or}
use Rattle.bg_graph.proofs.rings.kept.Given as goal

abbrev pub invariant-loop-count : goal.invariant-loop-count
invariant-loop-count l = (l.count ≤ length l.starts) × ((k : ℕ) → l.count ≤ k → k < length l.starts → l.place < get_or l.starts k 0)

abbrev pub decreases-loop-count : goal.decreases-loop-count
decreases-loop-count l = l.count
