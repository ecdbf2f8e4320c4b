-- What the contracts say of seats.
use Rattle.std.specs.Prelude.{◌≡◌, ℕ, suc, ◌*◌, ◌<◌, ◌≤◌, true, not, length, slice_index, Some, None}
use Rattle.atomic_table.specs.Seated.{TableId}
use Rattle.bg_base.specs.declared.ids.CandId.{CandId}
use Rattle.bg_words.specs.Sets.{Numbers, has, words_for}
use Rattle.bg_shared.specs.declared.view.View.{View}
use Rattle.bg_shared.specs.declared.shared.CandSeat.{CandSeat}
use Rattle.bg_shared.specs.declared.shared.Shared.{Shared}

-- the table that the seat belongs to
abbrev pub table_of : CandSeat → TableId
table_of s = s.seat.table_id

-- what the seat knows, and what its steps have cost
abbrev pub view : CandSeat → View
view s = s.seat.me.0

-- the seat is one of the table's own
abbrev pub IsOf : CandSeat → Shared → Type 0
IsOf s t = (table_of s ≡ t.table.shared.table_id) × ((view s).cands ≡ t.cands) × (length (view s).loads ≡ words_for t.cands)

-- the seat is the first, of which there is one
abbrev pub IsFirst : CandSeat → Type 0
IsFirst s = (view s).first ≡ 1

-- this number is drawn for candidate c, which isn't cleared yet
abbrev pub IsPending : CandSeat → ℕ → CandId → Type 0
IsPending s number c = s.pending ≡ Some (number, c)

-- no draw is pending
abbrev pub IsIdle : CandSeat → Type 0
IsIdle s = (view s).seen.pending ≡ None

-- what a snapshot leaves as it was
pub record SameBeside (old new : View) : Type 0 where
  pub live : new.live ≡ old.live
  pub cands : new.cands ≡ old.cands
  pub seats : new.seats ≡ old.seats
  pub first : new.first ≡ old.first
  pub right : new.right ≡ old.right
  pub parts : new.parts ≡ old.parts
  pub own : new.own ≡ old.own
  pub draws : new.draws ≡ old.draws
  pub pending : new.seen.pending ≡ old.seen.pending
  pub entries : new.seen.entries ≡ old.seen.entries
  pub loads : length new.loads ≡ length old.loads

-- A snapshot of n candidates: the set is those outside what the seat then knows to be gone, which has all that it knew before; each word was loaded once more; and the view has the set as its whole snapshot, from which nothing is drawn and which has a truth value for each candidate
pub record IsSnapshot (n : ℕ) (old new : View) (set : Numbers) : Type 0 where
  pub same : SameBeside old new
  pub outside : (c : ℕ) → c < n → has set c ≡ not (has new.seen.missing c)
  pub grows : (c : ℕ) → c < n → has old.seen.missing c ≡ true → has new.seen.missing c ≡ true
  pub fresh : (k : ℕ) → k < words_for n → slice_index new.loads k ≡ suc (slice_index old.loads k)
  pub shot : (c : ℕ) → c < n → has set c ≡ has new.seen.snapshot c
  pub whole : 0 < n → (n ≤ 64 * new.seen.loaded) × (new.undrawn ≡ true)
  pub long : 0 < n → length new.seen.snapshot ≡ n

-- a draw may be made for candidate c from this set: it is the seat's last snapshot, whole, and nothing was drawn from it
pub record MayDraw (n : ℕ) (v : View) (c : ℕ) (set : Numbers) : Type 0 where
  pub cand : c < n
  pub inside : has set c ≡ true
  pub shot : (d : ℕ) → d < n → has set d ≡ has v.seen.snapshot d
  pub whole : n ≤ 64 * v.seen.loaded
  pub undrawn : v.undrawn ≡ true
  pub room : v.own < 4294967296
