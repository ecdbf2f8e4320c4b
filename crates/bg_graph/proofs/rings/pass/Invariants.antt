use Rattle.std.proofs.Common.{ℕ, ◌<◌, ◌≤◌, length, get_or}
use Rattle.bg_graph.specs.Rings.{IsFront, NamesBefore, IsInside, spot_of}
use Rattle.bg_graph.proofs.rings.pass.Given as goal

abbrev pub invariant-loop-k : goal.invariant-loop-k
invariant-loop-k l = record {
  front : IsFront l.starts.items l.fn.starts.items;
  gone : (j : ℕ) → length l.starts.items ≤ j → j < length l.fn.starts.items → NamesBefore l.spots l.row (get_or l.fn.starts.items j 0);
  passed : (j : ℕ) → l.from ≤ j → j < l.k → IsInside (spot_of l.spots (get_or l.row j 0)) l.starts.items;
}
