-- The numbers that seats claim from one counter.
use Rattle.std.specs.Prelude.{◌≡◌, ℕ, suc, ◌+◌, ◌-◌, ◌<◌, ◌≤◌, min, true, false, ◌||◌, nat_lt, if◌then◌else◌, List, [], ◌∷◌, ◌++◌}
use mathlib.Core.Option.{some}
use lib.ListN.{get_elem?}
use Rattle.bg_base.specs.Totals.{total, times, once_below}
use Rattle.atomic_table.specs.Table.{State, Me, Step}
use Rattle.bg_claims.specs.declared.view.ClaimView.{ClaimView}

-- a seat that made no claim yet
abbrev pub newcomer : ℕ → ℕ → ℕ → ClaimView
newcomer limit seats parts = record { limit = limit; seats = seats; parts = parts; stops = 0; ended = false; numbers = [] }

-- a seat that is joined into another
abbrev pub spent : ClaimView
spent = newcomer 0 0 0

-- what one seat knows: it ended only where the counter had reached the limit
pub record Fits (most chairs counter : ℕ) (v : ClaimView) : Type 0 where
  pub limit : 0 < v.parts → v.limit ≡ most
  pub seats : 0 < v.parts → v.seats ≡ chairs
  pub idle : v.parts ≡ 0 → v.numbers ≡ []
  pub stops : v.stops ≤ v.parts
  pub going : v.ended ≡ false → v.stops ≡ 0
  pub ended : v.ended ≡ true → most ≤ counter

-- The numbers of all seats are those below the lesser of the counter and the limit, each once
pub record Given (most chairs counter : ℕ) (views : List ClaimView) : Type 0 where
  pub parts : total (λ v. v.parts) views ≡ chairs
  pub numbers : (x : ℕ) → total (λ v. times x v.numbers) views ≡ once_below x (min counter most)
  pub counted : counter ≤ most + total (λ v. v.stops) views
  pub each : (i : ℕ) (v : ClaimView) → get_elem? views i ≡ some v → Fits most chairs counter v

-- the rule of the table: its one word is the counter
abbrev pub Kept : ℕ → ℕ → State (Unit {0}) ClaimView → Type 0
Kept limit seats s = (counter : ℕ) × (s.words ≡ counter ∷ []) × Given limit seats counter s.views

-- the seat after a claim that found this number
abbrev pub after : ClaimView → ℕ → ClaimView
after v found =
    if nat_lt found v.limit
    then record { limit = v.limit; seats = v.seats; parts = v.parts; stops = v.stops; ended = v.ended; numbers = v.numbers ++ found ∷ [] }
    else record { limit = v.limit; seats = v.seats; parts = v.parts; stops = suc v.stops; ended = true; numbers = v.numbers }

-- a claim: what the seat had is below what it finds
abbrev pub Claims : Step (Unit {0}) → Me (Unit {0}) ClaimView → ℕ → Me (Unit {0}) ClaimView → Type 0
Claims st me found new = (new ≡ (after me.0 found, me.1)) × ((x : ℕ) → 1 ≤ times x me.0.numbers → x < found)

-- What a seat's numbers are: none twice, all below the limit, and all that are below it once every seat is in this one and one of them ended
pub record Told (v : ClaimView) : Type 0 where
  pub once : (x : ℕ) → times x v.numbers ≤ 1
  pub below : (x : ℕ) → 1 ≤ times x v.numbers → x < v.limit
  pub whole : v.parts ≡ v.seats → v.ended ≡ true → (x : ℕ) → times x v.numbers ≡ once_below x v.limit

-- a look at the counter: the seat stays as it is, and its numbers are these
abbrev pub Looks : Step (Unit {0}) → Me (Unit {0}) ClaimView → ℕ → Me (Unit {0}) ClaimView → Type 0
Looks st me found new = (new ≡ me) × Told me.0

-- one part is cut off for a new seat
abbrev pub without_part : ClaimView → ClaimView
without_part v = record { limit = v.limit; seats = v.seats; parts = v.parts - 1; stops = v.stops; ended = v.ended; numbers = v.numbers }

-- the new seat
abbrev pub one_part : ClaimView → ClaimView
one_part v = newcomer v.limit v.seats 1

-- the seat that took in another
abbrev pub joined : ClaimView → ClaimView → ClaimView
joined v w = record { limit = v.limit; seats = v.seats; parts = v.parts + w.parts; stops = v.stops + w.stops; ended = v.ended || w.ended; numbers = v.numbers ++ w.numbers }
