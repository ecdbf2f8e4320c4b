use Rattle.std.proofs.Common.{◌≡◌, All, length}
use Rattle.bg_rounds.specs.Keepers.{Sits}
use Rattle.bg_rounds.specs.Shelves.{Shelved}
use Rattle.bg_rounds.specs.Crews.{Employed, SameSeat}
use Rattle.bg_rounds.proofs.threaded.rounds.Given as goal

abbrev pub invariant-loop-round : goal.invariant-loop-round
invariant-loop-round g l = let k = g.C.Checker in record {
  sits : Sits l.run.shared.now l.first;
  keepers : All (Employed (k.targets l.checker) (k.cand l.checker) (k.finds l.checker) l.run.shared.now) l.keepers.items;
  count : length l.keepers.items ≡ length l.initial.keepers.items;
  shelved : Shelved (k.cands l.checker) (k.targets l.checker) (k.passes l.checker) l.shelf.kept.items;
  same : SameSeat l.initial.first l.first;
}
