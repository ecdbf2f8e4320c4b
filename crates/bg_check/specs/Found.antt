-- What a search for a place finds behind lines.
use Rattle.std.specs.Prelude.{ℕ, Bool, true, List, Option, Some, None, is_some}
use Rattle.bg_ast.specs.Syntax.{Prog}
use Rattle.bg_ast.specs.Execution.{Place}
use Rattle.bg_cert.specs.declared.cert.Cert.{Cert}
use Rattle.bg_cert.specs.Certs.{CertOf}
use Rattle.bg_tree.specs.declared.outcome.Budget.{Budget}
use Rattle.bg_numbered.specs.Lines.{Line}
use Rattle.bg_task.specs.Certified.{HasCertificateOf, HasCertificate}
use Rattle.bg_check.specs.declared.found.Found.{Found}
use Rattle.bg_check.specs.declared.found.Found.TheVariants.{Proved, Refuted, Unknown, Wanted}
use Rattle.bg_check.specs.Rounds.{IsRound}
use Rattle.bg_check.specs.Verdicts.{IsUnknown, IsRefuted}

-- some certificate of the place's clauses behind these lines
pub record IsCertifiedBehind (p : Prog) (set : ℕ → Bool) (t : Place) (lines : List Line) : Type 0 where
  pub cert : CertOf
  pub certificate : HasCertificateOf p set t lines cert

-- the kept certificate is one of the place's clauses behind these lines; where none is kept there is one
abbrev pub IsShownBehind : Prog → (ℕ → Bool) → Place → List Line → Option Cert → Type 0
IsShownBehind p set t lines (Some cert) = HasCertificate p set t lines cert
IsShownBehind p set t lines None = IsCertifiedBehind p set t lines

-- where so much of the budget is left: a certificate, a counterexample, why neither was found, or one more round
abbrev pub IsFound : Budget → Prog → (ℕ → Bool) → Place → List Line → Found → Type 0
IsFound left p set t lines (Proved cert) = IsShownBehind p set t lines cert
IsFound left p set t lines (Refuted cex) = IsRefuted p set t cex
IsFound left p set t lines (Unknown cause) = IsUnknown left p set t lines cause
IsFound left p set t lines (Wanted r) = IsRound p set t lines r

-- what is proved has its certificate
abbrev pub has_cert : Found → Bool
has_cert (Proved cert) = is_some cert
has_cert (Refuted cex) = true
has_cert (Unknown cause) = true
has_cert (Wanted r) = true
