use Rattle.std.proofs.Common.{◌≡◌, length, []}
use Rattle.bg_shared.proofs.Shots.{Shooting}
use Rattle.bg_shared.proofs.shared.Shared.snapshot_into.Given as goal

abbrev pub invariant-loop-i : goal.invariant-loop-i
invariant-loop-i l = record {
  table : l.seat.seat.table_id ≡ l.initial.seat.seat.table_id;
  bare : l.seat.seat.me.1 ≡ [];
  size : length l.set ≡ length l.initial.set;
  shooting : Shooting (length l.set) l.i l.initial.seat.seat.me.0 l.seat.seat.me.0 l.set;
}
