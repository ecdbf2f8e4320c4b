use Rattle.std.proofs.Common.{◌≡◌, ℕ, ◌<◌, ◌≤◌, length, true, get_or}
use Rattle.bg_elim.specs.Kept.{is_in}
use Rattle.bg_elim.specs.Work.{work_of, Extends, IsIndexed, IsPair, GetsReady, PairReady, KeepsSound}
use Rattle.bg_elim.proofs.pair.pair_all.Given as goal

abbrev pub invariant-loop-i : goal.invariant-loop-i
invariant-loop-i l = record {
  indexed : IsIndexed l.work;
  room : length (work_of l.work).rows ≤ l.budget;
  pairs : (i j : ℕ) → is_in i l.ups ≡ true → is_in j l.lows ≡ true → IsPair (work_of l.work) l.x i j;
  extends : Extends (work_of l.initial.work) (work_of l.work);
  sound : KeepsSound (work_of l.initial.work) (work_of l.work);
  ready : GetsReady (work_of l.initial.work) l.x (work_of l.work) ((k : ℕ) → k < l.i-index → (j : ℕ) → is_in j l.lows ≡ true → PairReady (work_of l.work) l.x (get_or l.ups k 0) j);
}
