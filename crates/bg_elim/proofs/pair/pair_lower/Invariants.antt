use Rattle.std.proofs.Common.{◌≡◌, ℕ, ◌<◌, ◌≤◌, length, true, get_or}
use Rattle.bg_elim.specs.Kept.{is_in}
use Rattle.bg_elim.specs.Work.{work_of, Extends, IsIndexed, IsPair, GetsReady, PairReady, KeepsSound}
use Rattle.bg_elim.proofs.pair.pair_lower.Given as goal

abbrev pub invariant-loop-j : goal.invariant-loop-j
invariant-loop-j l = record {
  indexed : IsIndexed l.work;
  room : length (work_of l.work).rows ≤ l.budget;
  pairs : (j : ℕ) → is_in j l.lows ≡ true → IsPair (work_of l.work) l.x l.i j;
  extends : Extends (work_of l.initial.work) (work_of l.work);
  sound : KeepsSound (work_of l.initial.work) (work_of l.work);
  ready : GetsReady (work_of l.initial.work) l.x (work_of l.work) ((k : ℕ) → k < l.j-index → PairReady (work_of l.work) l.x l.i (get_or l.lows k 0));
}
