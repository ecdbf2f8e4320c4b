use Rattle.std.proofs.Common.{◌≡◌, ℕ, ◌≤◌, ◌&&◌, ◌||◌, length, drop, map}
use Rattle.bg_rows.specs.Rows.{row_of}
use Rattle.bg_rows.specs.Steps.{row_at}
use Rattle.bg_elim.specs.Kept.{is_in}
use Rattle.bg_elim.specs.Work.{is_live, on_side}
use Rattle.bg_elim.proofs.round.add_back.Given as goal

abbrev pub invariant-loop-n : goal.invariant-loop-n
invariant-loop-n l = record {
  within : l.n ≤ length l.numbers;
  is : (q : ℕ) → is_in q l.made.items ≡ (is_in q l.initial.made.items || (is_in q (drop l.n l.numbers) && (is_live l.work.live.items q && on_side l.side l.x (row_at (map row_of l.work.rows.items) q))));
}

abbrev pub decreases-loop-n : goal.decreases-loop-n
decreases-loop-n l = l.n
