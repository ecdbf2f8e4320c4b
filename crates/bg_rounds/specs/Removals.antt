-- What a removal is.
use Rattle.std.specs.Prelude.{◌≡◌, ℕ, ◌<◌, Bool, List, [], ◌∷◌, ◌++◌}
use Rattle.bg_base.specs.declared.ids.CandId.{CandId}
use Rattle.bg_base.specs.declared.ids.TargetId.{TargetId}
use Rattle.bg_words.specs.declared.machine.Entry.{Entry}
use Rattle.bg_words.specs.Sets.{Numbers, has}
use Rattle.bg_core.specs.Inductive.{Candidates}
use Rattle.bg_rounds.specs.declared.checker.Finding.{Finding}
use Rattle.bg_rounds.specs.declared.keeper.Removal.{Removal}

-- the entry of the history that a removal is
abbrev pub entry_of : {V : Type 0} → Removal V → Entry
entry_of d = record { number = d.number; cand = d.cand; snapshot = d.snapshot; was_there = d.was_there }

-- what was found shows the removal to be right
pub record RightRemoval {V : Type 0} (targets : ℕ) (cand : ℕ → ℕ) (finds : ℕ → Candidates → Bool → V → Type 0) (d : Removal V) : Type 0 where
  pub target : d.target.0 < targets
  pub carries : cand d.target.0 ≡ d.cand.0
  pub found : finds d.target.0 (has d.snapshot) d.unknown d.told

-- one removal more: of this target and its candidate under this snapshot, with what was found
abbrev pub IsOneMore : {V : Type 0} → List (Removal V) → List (Removal V) → TargetId → CandId → Numbers → Finding V → Type 0
IsOneMore {V} old new target cand snapshot finding = (d : Removal V) × (new ≡ old ++ d ∷ []) × (d.target ≡ target) × (d.cand ≡ cand) × (d.snapshot ≡ snapshot)
    × (d.unknown ≡ finding.unknown) × (d.told ≡ finding.told)
