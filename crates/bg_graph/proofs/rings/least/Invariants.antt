use Rattle.std.proofs.Common.{ℕ, ◌≡◌, ◌≤◌, ◌⊎◌, take, Contains}
use Rattle.bg_graph.proofs.rings.least.Given as goal

abbrev pub invariant-loop-v : goal.invariant-loop-v
invariant-loop-v l = record {
  low : l.found ≤ l.first;
  all : (v : ℕ) → Contains (take l.v-index l.part) v → l.found ≤ v;
  one : (l.found ≡ l.first) ⊎ Contains l.part l.found;
}
