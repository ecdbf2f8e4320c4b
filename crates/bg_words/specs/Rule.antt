-- The rule of the shared set, over the candidates that are present, the draw counter, and what each seat knows.
use Rattle.std.specs.Prelude.{◌≡◌, ℕ, ◌/◌, ◌<◌, ◌≤◌, Bool, true, false, not, List, Some}
use mathlib.Core.Option.{some}
use lib.ListN.{get_elem?}
use Rattle.bg_base.specs.Totals.{total, weight, once_below}
use Rattle.bg_words.specs.declared.machine.Seen.{Seen}
use Rattle.bg_words.specs.declared.machine.Entry.{Entry}
use Rattle.bg_words.specs.Sets.{has}
use Rattle.bg_words.specs.Steps.{earlier, took, drawn}

-- Number m was drawn under snapshot s: what the snapshot lacks was cleared with smaller numbers. E counts those entries
pub record Low (n next : ℕ) (E : ℕ → ℕ → ℕ) (m : ℕ) (s : List Bool) : Type 0 where
  pub number : m < next
  pub before : (d : ℕ) → d < n → has s d ≡ false → 1 ≤ E d m

-- an entry: its number was drawn under its snapshot, which has its candidate, and the candidate is away
pub record Held (n next : ℕ) (E : ℕ → ℕ → ℕ) (p : ℕ → Bool) (e : Entry) : Type 0 where
  pub low : Low n next E e.number e.snapshot
  pub cand : e.cand.0 < n
  pub inside : has e.snapshot e.cand.0 ≡ true
  pub away : p e.cand.0 ≡ false

-- what one seat knows is so: what it knows to be gone is away, and what loaded words of its snapshot lack it knows to be gone
pub record Fits (n next : ℕ) (E : ℕ → ℕ → ℕ) (p : ℕ → Bool) (v : Seen) : Type 0 where
  pub gone : (c : ℕ) → has v.missing c ≡ true → (c < n) × (p c ≡ false)
  pub seen : (c : ℕ) → c < n → c / 64 < v.loaded → has v.snapshot c ≡ false → has v.missing c ≡ true
  pub held : (m : ℕ) → v.pending ≡ Some m → Low n next E m v.snapshot
  pub entries : (k : ℕ) (e : Entry) → get_elem? v.entries k ≡ some e → Held n next E p e

-- how many entries of candidate c have a number below m, over all seats
abbrev pub all_earlier : List Seen → ℕ → ℕ → ℕ
all_earlier views c m = total (λ v. earlier c m v.entries) views

-- The rule: numbers are drawn once, each away candidate was found there by one entry, and what each seat knows is so
pub record Kept (n next : ℕ) (p : ℕ → Bool) (views : List Seen) : Type 0 where
  pub outside : (c : ℕ) → p c ≡ true → c < n
  pub numbers : (m : ℕ) → total (λ v. drawn m v) views ≤ once_below m next
  pub there : (c : ℕ) → c < n → total (λ v. took c v.entries) views ≡ weight (not (p c))
  pub each : (i : ℕ) (v : Seen) → get_elem? views i ≡ some v → Fits n next (all_earlier views) p v
