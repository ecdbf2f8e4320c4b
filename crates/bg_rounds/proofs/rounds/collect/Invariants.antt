use Rattle.std.proofs.Common.{◌≡◌, ◌+◌, All, length, vec_len}
use Rattle.bg_rounds.specs.Shelves.{Shelved}
use Rattle.bg_rounds.specs.Crews.{Employed, Works}
use Rattle.bg_rounds.proofs.rounds.collect.Given as goal

abbrev pub decreases-loop-worker : goal.decreases-loop-worker
decreases-loop-worker g l = vec_len l.workers

abbrev pub invariant-loop-worker : goal.invariant-loop-worker
invariant-loop-worker g l = let k = g.C.Checker in record {
  keepers : All (Employed (k.targets l.checker) (k.cand l.checker) (k.finds l.checker) l.round.shared.now) l.keepers.items;
  workers : All (Works (k.cands l.checker) (k.targets l.checker) (k.cand l.checker) (k.passes l.checker) (k.finds l.checker) l.round.claims.now l.round.shared.now) l.workers.items;
  count : length l.keepers.items + length l.workers.items ≡ length l.initial.workers.items;
  shelved : Shelved (k.cands l.checker) (k.targets l.checker) (k.passes l.checker) l.shelf.kept.items;
}
