-- The entries as a history, and what holds of every state of the machine.
use Rattle.std.specs.Prelude.{◌≡◌, ℕ, ◌/◌, ◌<◌, ◌≤◌, ◌↔◌, true, false, List, [], ◌∷◌, ◌++◌, map, length, Some}
use mathlib.Core.Option.{some}
use lib.ListN.{get_elem?}
use Rattle.bg_base.specs.Totals.{total, once_below}
use Rattle.bg_words.specs.declared.machine.Seen.{Seen}
use Rattle.bg_words.specs.declared.machine.Entry.{Entry}
use Rattle.bg_words.specs.declared.machine.Worker.{Worker}
use Rattle.bg_words.specs.declared.machine.CoreState.{CoreState}
use Rattle.bg_words.specs.Sets.{has}
use Rattle.bg_words.specs.Steps.{took, numbered, drawn}

-- e is one of these entries
abbrev pub Among : List Entry → Entry → Type 0
Among es e = (k : ℕ) × (get_elem? es k ≡ some e)

-- candidate c was cleared
abbrev pub Dropped : List Entry → ℕ → Type 0
Dropped es c = (e : Entry) × Among es e × (e.cand.0 ≡ c)

-- candidate c was cleared with a number below m
abbrev pub DroppedBefore : List Entry → ℕ → ℕ → Type 0
DroppedBefore es c m = (e : Entry) × Among es e × (e.cand.0 ≡ c) × (e.number < m)

-- Numbers differ; a snapshot has its candidate; what a snapshot lacks was dropped with a smaller number; of the entries of one candidate exactly one found it there
pub record Ordered (n : ℕ) (es : List Entry) : Type 0 where
  pub differ : (m : ℕ) → numbered m es ≤ 1
  pub inside : (e : Entry) → Among es e → (e.cand.0 < n) × (has e.snapshot e.cand.0 ≡ true)
  pub before : (e : Entry) → Among es e → (d : ℕ) → d < n → has e.snapshot d ≡ false → DroppedBefore es d e.number
  pub once : (e : Entry) → Among es e → took e.cand.0 es ≡ 1

-- the entries of all, one after the other
abbrev pub entries_of : List Seen → List Entry
entries_of [] = []
entries_of (v ∷ vs) = v.entries ++ entries_of vs

-- what each worker has seen
abbrev pub views_of : List Worker → List Seen
views_of ws = map (λ u. u.seen) ws

-- the entries of all workers
abbrev pub history : CoreState → List Entry
history s = entries_of (views_of s.workers)

-- What holds of a state: no worker thinks a present candidate gone; what loaded words of a snapshot lack is known to be gone; numbers differ and are below the counter; absent is what was dropped; the entries are ordered; and what a pending draw's snapshot lacks was dropped before
pub record Sound (s : CoreState) : Type 0 where
  pub apart : (w : ℕ) (u : Worker) → get_elem? s.workers w ≡ some u → (c : ℕ) → has u.seen.missing c ≡ true → has s.words c ≡ false
  pub lacks : (w : ℕ) (u : Worker) → get_elem? s.workers w ≡ some u → (c : ℕ) → c < s.cands → c / 64 < u.seen.loaded → has u.seen.snapshot c ≡ false → has u.seen.missing c ≡ true
  pub contains : (w : ℕ) (u : Worker) → get_elem? s.workers w ≡ some u → (c : ℕ) → c < s.cands → c / 64 < u.seen.loaded → has s.words c ≡ true → has u.seen.snapshot c ≡ true
  pub numbers : (m : ℕ) → total (drawn m) (views_of s.workers) ≤ once_below m s.next
  pub absent : (c : ℕ) → c < s.cands → (has s.words c ≡ false) ↔ Dropped (history s) c
  pub ordered : Ordered s.cands (history s)
  pub paired : (w : ℕ) (u : Worker) → get_elem? s.workers w ≡ some u → length u.decisions ≡ length u.seen.entries
  pub waiting : (w : ℕ) (u : Worker) → get_elem? s.workers w ≡ some u → (m : ℕ) → u.seen.pending ≡ Some m → (d : ℕ) → d < s.cands → has u.seen.snapshot d ≡ false → DroppedBefore (history s) d m
