-- Texts that are written.
use Rattle.std.specs.Prelude.{◌≡◌, ◌⊎◌, ℕ, List, take, Option}
use Rattle.bg_io.specs.Causes.{joined, IsTextOf}
use Rattle.bg_ends.specs.declared.status.Status.{Status}

-- a text that the call may write when it ends so, where it has to be such a text of the bytes
pub record MayWrite (IsText : List ℕ → Status → List ℕ → Type 0) (contents : Option (List ℕ → List ℕ)) (names : List (List ℕ)) (ends : Status) (text : List ℕ) : Type 0 where
  pub bytes : List ℕ
  pub read : IsTextOf contents names bytes
  pub report : IsText bytes ends text

-- such a text was written, whole
pub record Wrote (IsText : List ℕ → Status → List ℕ → Type 0) (contents : Option (List ℕ → List ℕ)) (names : List (List ℕ)) (ends : Status) (before now : Option (List ℕ)) : Type 0 where
  pub text : List ℕ
  pub may : MayWrite IsText contents names ends text
  pub written : now ≡ joined before text

-- nothing was written, or the first bytes of the text
abbrev pub WroteSomeOf : List ℕ → Option (List ℕ) → Option (List ℕ) → Type 0
WroteSomeOf text before now = (now ≡ before) ⊎ ((count : ℕ) × (now ≡ joined before (take count text)))
