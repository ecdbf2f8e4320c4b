-- When an outcome is true.
use Rattle.std.specs.Prelude.{◌≡◌, ℕ, ◌<◌, ◌↔◌, Bool, true, false, List, Option, Some, map, All, length, slice_get}
use Rattle.bg_words.specs.Sets.{Numbers, has, IsSubset}
use Rattle.bg_words.specs.History.{Dropped, Ordered}
use Rattle.bg_core.specs.Inductive.{Candidates}
use Rattle.bg_rounds.specs.declared.checker.Kept.{Kept}
use Rattle.bg_rounds.specs.declared.outcome.Outcome.{Outcome}
use Rattle.bg_rounds.specs.Removals.{entry_of, RightRemoval}
use Rattle.bg_rounds.specs.Shelves.{RightKept, Shelved}

-- target t has a kept proof, right, which uses retained candidates alone
abbrev pub IsProved : {P : Type 0} → ℕ → (ℕ → Candidates → P → Type 0) → List (Option (Kept P)) → Numbers → ℕ → Type 0
IsProved {P} n passes ks retained t = (k : Kept P) × (slice_get ks t ≡ Some (Some k)) × RightKept n passes t k × IsSubset k.used retained

-- The history is ordered and its answers are right, and so is each kept proof; retained is what no entry dropped; and each target of a retained candidate is proved under what is retained
pub record TrueOutcome {P V : Type 0} (n targets : ℕ) (cand : ℕ → ℕ)
    (passes : ℕ → Candidates → P → Type 0) (finds : ℕ → Candidates → Bool → V → Type 0) (o : Outcome P V) : Type 0 where
  pub count : length o.retained ≡ n
  pub ordered : Ordered n (map entry_of o.removals.items)
  pub right : All (RightRemoval targets cand finds) o.removals.items
  pub kept : Shelved n targets passes o.kept.items
  pub retained : (c : ℕ) → c < n → (has o.retained c ≡ false) ↔ Dropped (map entry_of o.removals.items) c
  pub certificates : (t : ℕ) → t < targets → has o.retained (cand t) ≡ true → IsProved n passes o.kept.items o.retained t

-- no candidate went because its check ended unknown
abbrev pub NoneUnknown : {P V : Type 0} → Outcome P V → Type 0
NoneUnknown o = All (λ d. d.unknown ≡ false) o.removals.items
