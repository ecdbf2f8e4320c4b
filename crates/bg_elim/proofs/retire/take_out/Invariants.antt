use Rattle.std.proofs.Common.{◌≡◌, ℕ, ◌&&◌, not, length, take}
use Rattle.bg_elim.specs.Kept.{is_in}
use Rattle.bg_elim.specs.Work.{is_live}
use Rattle.bg_elim.proofs.retire.take_out.Given as goal

abbrev pub invariant-loop-n : goal.invariant-loop-n
invariant-loop-n l = record {
  sized : length l.live.items ≡ length l.initial.live.items;
  is : (q : ℕ) → is_live l.live.items q ≡ (is_live l.initial.live.items q && not (is_in q (take l.n-index l.numbers)));
}
