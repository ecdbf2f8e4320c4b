-- What a worker knows of the shared set, and what each step makes of it.
use Rattle.std.specs.Prelude.{ℕ, suc, ◌+◌, ◌/◌, Bool, not, ◌&&◌, ◌||◌, List, [], ◌∷◌, ◌++◌, nat_eq, nat_lt, Option, Some, None}
use Rattle.bg_base.specs.Totals.{total, weight}
use Rattle.bg_words.specs.declared.machine.Seen.{Seen}
use Rattle.bg_words.specs.declared.machine.Entry.{Entry}
use Rattle.bg_words.specs.Sets.{has, tabulate}

-- who knows these candidates to be gone, and has done nothing
abbrev pub newcomer : List Bool → Seen
newcomer missing = record { missing = missing; snapshot = []; loaded = 0; pending = None; entries = [] }

-- a new snapshot begins
abbrev pub begun : Seen → Seen
begun v = record { missing = v.missing; snapshot = []; loaded = 0; pending = v.pending; entries = v.entries }

-- after a load of candidate word i, of n candidates, which q tells
abbrev pub looked : ℕ → Seen → ℕ → (ℕ → Bool) → Seen
looked n v i q = record {
  missing = tabulate n (λ c. has v.missing c || (nat_eq (c / 64) i && not (q c)));
  snapshot = tabulate n (λ c. (nat_eq (c / 64) i && q c) || (nat_lt (c / 64) i && has v.snapshot c));
  loaded = suc i;
  pending = v.pending;
  entries = v.entries;
}

-- after a draw that found this number
abbrev pub drew : Seen → ℕ → Seen
drew v number = record { missing = v.missing; snapshot = v.snapshot; loaded = v.loaded; pending = Some number; entries = v.entries }

-- the entry that a clearing makes
abbrev pub entry : Seen → ℕ → ℕ → Bool → Entry
entry v number c was_there = record { number = number; cand = record { 0 = c }; snapshot = v.snapshot; was_there = was_there }

-- after the clearing of candidate c, for which this number was drawn
abbrev pub cleared : ℕ → Seen → ℕ → ℕ → Bool → Seen
cleared n v number c was_there = record {
  missing = tabulate n (λ d. has v.missing d || nat_eq d c);
  snapshot = v.snapshot;
  loaded = v.loaded;
  pending = None;
  entries = v.entries ++ entry v number c was_there ∷ [];
}

-- the first after the other is joined into it
abbrev pub joined : ℕ → Seen → Seen → Seen
joined n v w = record {
  missing = tabulate n (λ c. has v.missing c || has w.missing c);
  snapshot = v.snapshot;
  loaded = v.loaded;
  pending = v.pending;
  entries = v.entries ++ w.entries;
}

-- ---- counts
-- the entries of candidate c with a number below m
abbrev pub earlier : ℕ → ℕ → List Entry → ℕ
earlier c m es = total (λ e. weight (nat_eq e.cand.0 c && nat_lt e.number m)) es

-- the entries that have the number m
abbrev pub numbered : ℕ → List Entry → ℕ
numbered m es = total (λ e. weight (nat_eq e.number m)) es

-- the entries of candidate c that found it there
abbrev pub took : ℕ → List Entry → ℕ
took c es = total (λ e. weight (nat_eq e.cand.0 c && e.was_there)) es

-- 1 where the pending number is m, else 0
abbrev pub pends : ℕ → Option ℕ → ℕ
pends m None = 0
pends m (Some q) = weight (nat_eq q m)

-- how often a seat has the number m
abbrev pub drawn : ℕ → Seen → ℕ
drawn m v = numbered m v.entries + pends m v.pending
