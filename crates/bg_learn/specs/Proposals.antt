-- What is known of a proposal.
use Rattle.std.specs.Prelude.{◌≡◌, ℕ, Bool, false}
use Rattle.bg_formula.specs.Formulas.{Formula}
use Rattle.bg_cert.specs.Written.{IsClosed}
use Rattle.bg_learn.specs.declared.answer.Proposal.{Proposal}
use Rattle.bg_learn.specs.declared.answer.Proposal.TheVariants.{Proof, Shown, Values, Nothing}

-- what is shown is so, and it is shown only where certificates aren't kept; of the others nothing is known
abbrev pub IsProposal : Formula → (ℕ → Bool) → Bool → Proposal → Type 0
IsProposal f set keeps (Proof cert) = Unit {0}
IsProposal f set keeps Shown = (keeps ≡ false) × IsClosed f set
IsProposal f set keeps (Values atoms) = Unit {0}
IsProposal f set keeps Nothing = Unit {0}
