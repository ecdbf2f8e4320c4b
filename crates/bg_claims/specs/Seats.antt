-- What the contracts say of seats.
use Rattle.std.specs.Prelude.{◌≡◌, ℕ, ◌<◌, ◌≤◌, ◌⊎◌, true, false}
use Rattle.bg_base.specs.Totals.{times}
use Rattle.bg_claims.specs.declared.view.ClaimView.{ClaimView}
use Rattle.bg_claims.specs.declared.table.ClaimSeat.{ClaimSeat}
use Rattle.bg_claims.specs.declared.table.Claims.{Claims}
use Rattle.bg_claims.specs.Claims.{newcomer, after}

-- what the seat knows
abbrev pub view : ClaimSeat → ClaimView
view s = s.seat.me.0

-- the seat is one of the table's own
abbrev pub IsOf : ClaimSeat → Claims → Type 0
IsOf s t = (s.seat.table_id ≡ t.table.shared.table_id) × ((view s).limit ≡ t.limit) × ((view s).seats ≡ t.seats)

-- a seat of this table that made no claim
abbrev pub IsFresh : Claims → ClaimSeat → Type 0
IsFresh t s = (s.seat.table_id ≡ t.table.shared.table_id) × (view s ≡ newcomer t.limit t.seats 1)

-- a number below the limit, which is above all that the seat had, and which the seat has now
pub record IsClaimed (old new : ClaimView) (found : ℕ) : Type 0 where
  pub below : found < old.limit
  pub rises : (x : ℕ) → 1 ≤ times x old.numbers → x < found
  pub view : new ≡ after old found

-- the counter had reached the limit: earlier, and nothing was done, or now
abbrev pub IsEnd : ClaimView → ClaimView → Type 0
IsEnd old new = ((old.ended ≡ true) × (new ≡ old)) ⊎ ((old.ended ≡ false) × (found : ℕ) × (old.limit ≤ found) × (new ≡ after old found))
