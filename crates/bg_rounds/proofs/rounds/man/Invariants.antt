use Rattle.std.proofs.Common.{◌≡◌, ◌+◌, All, length, vec_len}
use Rattle.bg_claims.specs.Seats.{IsFresh}
use Rattle.bg_rounds.specs.Crews.{Employed, Works}
use Rattle.bg_rounds.proofs.rounds.man.Given as goal

abbrev pub decreases-loop-keeper : goal.decreases-loop-keeper
decreases-loop-keeper g l = vec_len l.keepers

abbrev pub invariant-loop-keeper : goal.invariant-loop-keeper
invariant-loop-keeper g l = let k = g.C.Checker in record {
  keepers : All (Employed (k.targets l.checker) (k.cand l.checker) (k.finds l.checker) l.round.shared.now) l.keepers.items;
  seats : All (IsFresh l.round.claims.now) l.seats.items;
  same : length l.seats.items ≡ length l.keepers.items;
  workers : All (Works (k.cands l.checker) (k.targets l.checker) (k.cand l.checker) (k.passes l.checker) (k.finds l.checker) l.round.claims.now l.round.shared.now) l.workers.items;
  count : length l.workers.items + length l.keepers.items ≡ length l.initial.keepers.items;
}
