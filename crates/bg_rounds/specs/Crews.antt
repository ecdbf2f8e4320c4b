-- What holds of the workers of a round.
use Rattle.std.specs.Prelude.{◌≡◌, ℕ, ◌<◌, Bool, true, All, List, [], Option}
use Rattle.bg_core.specs.Inductive.{Candidates}
use Rattle.bg_claims.specs.declared.table.Claims.{Claims}
use Rattle.bg_claims.specs.Seats as claim
use Rattle.bg_shared.specs.declared.shared.Shared.{Shared}
use Rattle.bg_shared.specs.Seats.{view}
use Rattle.bg_rounds.specs.declared.keeper.Keeper.{Keeper}
use Rattle.bg_rounds.specs.declared.worker.Found.{Found}
use Rattle.bg_rounds.specs.declared.worker.Worker.{Worker}
use Rattle.bg_rounds.specs.Removals.{RightRemoval}
use Rattle.bg_base.specs.declared.ids.TargetId.{TargetId}
use Rattle.bg_words.specs.Sets.{Numbers, has}
use Rattle.bg_rounds.specs.declared.checker.Kept.{Kept}
use Rattle.bg_rounds.specs.Shelves.{RightKept, Holds}
use Rattle.bg_rounds.specs.Keepers.{Sits, Stocked}

-- a found proof shows that its target passes
pub record RightFound {P : Type 0} (n targets : ℕ) (passes : ℕ → Candidates → P → Type 0) (f : Found P) : Type 0 where
  pub target : f.target.0 < targets
  pub kept : RightKept n passes f.target.0 f.kept

-- a worker's keeper: its seat is a forked one alone, there is room for its removals, and they are right
pub record Employed {V D : Type 0} (targets : ℕ) (cand : ℕ → ℕ) (finds : ℕ → Candidates → Bool → V → Type 0) (shared : Shared) (d : Keeper V D) : Type 0 where
  pub sits : Sits shared d
  pub stocked : Stocked shared d
  pub removals : All (RightRemoval targets cand finds) d.removals.items
  pub part : (view d.seat).parts ≡ 1
  pub right : (view d.seat).right ≡ 0

-- a keeper with a forked seat that has removed nothing, and room for its removals
pub record IsNew {V D : Type 0} (shared : Shared) (d : Keeper V D) : Type 0 where
  pub sits : Sits shared d
  pub stocked : Stocked shared d
  pub empty : d.removals.items ≡ []
  pub part : (view d.seat).parts ≡ 1
  pub right : (view d.seat).right ≡ 0

-- a worker of the round with these claims
pub record Works {P V D : Type 0} (n targets : ℕ) (cand : ℕ → ℕ)
    (passes : ℕ → Candidates → P → Type 0) (finds : ℕ → Candidates → Bool → V → Type 0) (claims : Claims) (shared : Shared) (w : Worker P V D) : Type 0 where
  pub claim : claim.IsOf w.claim claims
  pub keeper : Employed targets cand finds shared w.keeper
  pub found : All (RightFound n targets passes) w.found.items

-- a round has this target: its candidate is in the set, and no kept proof of it uses the set alone
abbrev pub IsDue : {P : Type 0} → (ℕ → ℕ) → List (Option (Kept P)) → Numbers → TargetId → Type 0
IsDue cand ks set t = (has set (cand t.0) ≡ true) × (Holds ks t.0 set → ⊥)

-- the keeper has drawn and removed nothing since, and its seat's standing among the others is as it was
pub record SameSeat {V D : Type 0} (old new : Keeper V D) : Type 0 where
  pub first : (view new.seat).first ≡ (view old.seat).first
  pub right : (view new.seat).right ≡ (view old.seat).right
  pub parts : (view new.seat).parts ≡ (view old.seat).parts
  pub removals : new.removals ≡ old.removals
  pub spare : new.spare ≡ old.spare
