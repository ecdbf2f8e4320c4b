use Rattle.std.proofs.Common.{◌≡◌, ℕ, ◌&&◌, ◌||◌, take, map}
use Rattle.bg_rows.specs.Rows.{row_of}
use Rattle.bg_rows.specs.Steps.{row_at}
use Rattle.bg_elim.specs.Kept.{is_in}
use Rattle.bg_elim.specs.Work.{is_live, on_side}
use Rattle.bg_elim.proofs.round.add_front.Given as goal

abbrev pub invariant-loop-m : goal.invariant-loop-m
invariant-loop-m l =
    (q : ℕ) → is_in q l.made.items ≡ (is_in q l.initial.made.items || (is_in q (take l.m-index l.numbers) && (is_live l.work.live.items q && on_side l.side l.x (row_at (map row_of l.work.rows.items) q))))
