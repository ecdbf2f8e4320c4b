use Rattle.std.proofs.Common.{◌≡◌, ◌+◌, All, length, ◌-◌, []}
use Rattle.bg_claims.specs.declared.table.ClaimSeat.{ClaimSeat}
use Rattle.bg_claims.specs.Claims.{newcomer}
use Rattle.bg_claims.specs.Seats.{view}
use Rattle.bg_claims.proofs.table.Claims.new.Given as goal

abbrev pub invariant-loop-i : goal.invariant-loop-i
invariant-loop-i l = record {
  first : l.first.table_id ≡ l.table.shared.table_id;
  view_is : l.first.me ≡ (newcomer l.limit l.seats (l.seats - length l.all.items), []);
  count : length l.all.items + 1 ≡ l._i;
  seats : All (λ (s : ClaimSeat). (s.seat.table_id ≡ l.table.shared.table_id) × (view s ≡ newcomer l.limit l.seats 1)) l.all.items;
}
