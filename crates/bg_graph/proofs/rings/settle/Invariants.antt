use Rattle.std.proofs.Common.{ℕ, ◌≡◌, ◌<◌, ◌≤◌, length, take, Contains}
use Rattle.std.specs.List.{sum_by}
use Rattle.bg_graph.specs.Rings.{spot_of, fresh}
use Rattle.bg_graph.specs.declared.rings.Spot.TheVariants.{Settled}
use Rattle.bg_graph.proofs.rings.settle.Given as goal

abbrev pub invariant-loop-v : goal.invariant-loop-v
invariant-loop-v l = record {
  settled : (v : ℕ) → Contains (take l.v-index l.part) v → v < length l.fn.spots → spot_of l.spots v ≡ Settled;
  kept : (v : ℕ) → (Contains (take l.v-index l.part) v → ⊥) → spot_of l.spots v ≡ spot_of l.fn.spots v;
  fewer : sum_by fresh l.spots ≤ sum_by fresh l.fn.spots;
}
