-- What a history of right answers means. Fails t S says that target t fails under the set S, cand t is the candidate of t.
use Rattle.std.specs.Prelude.{◌≡◌, ℕ, ◌<◌, Bool, true, false, List, length}
use mathlib.Core.Option.{some}
use lib.ListN.{get_elem?}
use Rattle.bg_words.specs.declared.machine.Entry.{Entry}
use Rattle.bg_words.specs.declared.machine.Pass.{Pass}
use Rattle.bg_words.specs.declared.machine.Decision.{Decision}
use Rattle.bg_words.specs.declared.machine.Worker.{Worker}
use Rattle.bg_words.specs.declared.machine.CoreState.{CoreState}
use Rattle.bg_words.specs.Sets.{has}

-- a set of candidates
abbrev pub Candidates : Type 0
Candidates = ℕ → Bool

-- all of s is in t
abbrev pub Subset : Candidates → Candidates → Type 0
Subset s t = (c : ℕ) → s c ≡ true → t c ≡ true

module _ (IsTarget : ℕ → Type 0) (cand : ℕ → ℕ) (Fails : ℕ → Candidates → Type 0) where
  -- a run that fails under a set fails under each subset that has the target's candidate
  abbrev pub Shrinks : Type 0
  Shrinks = (t : ℕ) (s u : Candidates) → Subset u s → u (cand t) ≡ true → Fails t s → Fails t u

  -- no target of a candidate in the set fails under it
  abbrev pub Inductive : Candidates → Type 0
  Inductive s = (t : ℕ) → IsTarget t → s (cand t) ≡ true → Fails t s → ⊥

  -- the greatest inductive set of candidates below n
  abbrev pub Greatest : ℕ → Candidates → Type 0
  Greatest n s = Inductive s × ((u : Candidates) → ((c : ℕ) → u c ≡ true → c < n) → Inductive u → Subset u s)

  -- each target of a candidate that is there has one of these passes, whose used set is there
  abbrev pub ClosedOver : List Pass → Candidates → Type 0
  ClosedOver ps words = (t : ℕ) → IsTarget t → words (cand t) ≡ true → (k : ℕ) × (q : Pass) × (get_elem? ps k ≡ some q) × (q.task.target.0 ≡ t) × Subset (has q.used) words

  -- each target of a candidate that is there has a pass whose used set is there
  abbrev pub Closed : CoreState → Type 0
  Closed s = (t : ℕ) → IsTarget t → has s.words (cand t) ≡ true
      → (w : ℕ) × (u : Worker) × (k : ℕ) × (q : Pass) × (get_elem? s.workers w ≡ some u) × (get_elem? u.passes k ≡ some q) × (q.task.target.0 ≡ t) × Subset (has q.used) (has s.words)

-- Causes t S says that a check of target t under S had a cause to end unknown
module _ (IsTarget : ℕ → Type 0) (cand : ℕ → ℕ) (Fails Causes : ℕ → Candidates → Type 0) where
  -- a pass carries its target's candidate, and is of each set that has what it used
  pub record RightPass (q : Pass) : Type 0 where
    pub target : IsTarget q.task.target.0
    pub carries : cand q.task.target.0 ≡ q.task.cand.0
    pub holds : (set : Candidates) → Subset (has q.used) set → Fails q.task.target.0 set → ⊥

  -- a drop's target carries the entry's candidate; it fails under the entry's snapshot, or its check had a cause to end unknown there
  pub record RightDrop (e : Entry) (d : Decision) : Type 0 where
    pub target : IsTarget d.target.0
    pub carries : cand d.target.0 ≡ e.cand.0
    pub fails : d.unknown ≡ false → Fails d.target.0 (has e.snapshot)
    pub cause : d.unknown ≡ true → Causes d.target.0 (has e.snapshot)

  -- all kept answers of a state are right
  pub record Right (s : CoreState) : Type 0 where
    pub passes : (w : ℕ) (u : Worker) (k : ℕ) (q : Pass) → get_elem? s.workers w ≡ some u → get_elem? u.passes k ≡ some q → RightPass q
    pub drops : (w : ℕ) (u : Worker) (k : ℕ) (e : Entry) (d : Decision) → get_elem? s.workers w ≡ some u → get_elem? u.seen.entries k ≡ some e → get_elem? u.decisions k ≡ some d → RightDrop e d

  -- right answers beside any list of entries: the k-th decision is that of the k-th entry
  pub record RightOver (ps : List Pass) (es : List Entry) (ds : List Decision) : Type 0 where
    pub passes : (k : ℕ) (q : Pass) → get_elem? ps k ≡ some q → RightPass q
    pub paired : length ds ≡ length es
    pub drops : (k : ℕ) (e : Entry) (d : Decision) → get_elem? es k ≡ some e → get_elem? ds k ≡ some d → RightDrop e d

-- no kept decision is unknown
abbrev pub NoneUnknown : CoreState → Type 0
NoneUnknown s = (w : ℕ) (u : Worker) (k : ℕ) (d : Decision) → get_elem? s.workers w ≡ some u → get_elem? u.decisions k ≡ some d → d.unknown ≡ false

-- none of these decisions is unknown
abbrev pub NoneUnknownIn : List Decision → Type 0
NoneUnknownIn ds = (k : ℕ) (d : Decision) → get_elem? ds k ≡ some d → d.unknown ≡ false
