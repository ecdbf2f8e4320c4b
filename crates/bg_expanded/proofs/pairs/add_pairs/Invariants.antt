use Rattle.std.proofs.Common.{ℕ, List}
use Rattle.bg_expanded.specs.Bodies.{worth}
use Rattle.bg_expanded.proofs.Tallies.{Counted, Has}
use Rattle.bg_expanded.proofs.pairs.add_pairs.Given as goal

abbrev pub invariant-loop-done : goal.invariant-loop-done
invariant-loop-done l = record {
  counted : Counted l.told l.done l.counts.items;
  has : (ws : List ℕ) → Has l.told (worth l.fn.count ws) (worth l.count ws) l.done;
}
