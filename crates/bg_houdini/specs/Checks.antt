-- What the check of a task says of it.
use Rattle.std.specs.Prelude.{◌≡◌, ℕ, Bool, true, false, ◌&&◌, nat_lt, List, Option, Some, is_some, length, slice_get}
use Rattle.bg_ast.specs.Syntax.{Prog}
use Rattle.bg_ast.specs.Execution.{Interp, State, Choice, Place}
use Rattle.bg_sense.specs.Claims.{Fails}
use Rattle.bg_words.specs.Sets.{Numbers, has}
use Rattle.bg_cert.specs.declared.cert.Cert.{Cert}
use Rattle.bg_cert.specs.Certs.{cert_of, uses}
use Rattle.bg_tree.specs.declared.outcome.Budget.{Budget}
use Rattle.bg_check.specs.declared.verdict.Verdict.TheVariants as verdict
use Rattle.bg_check.specs.Verdicts.{IsShown, IsRight}
use Rattle.bg_check.specs.declared.proof.Proof.{Proof}
use Rattle.bg_houdini.specs.declared.reason.Reason.{Reason}
use Rattle.bg_houdini.specs.declared.reason.Reason.TheVariants.{Refuted, Unknown, Left}
use Rattle.bg_houdini.specs.Tasks.{tasks_of}

-- some induction run fails at the place under the set
pub record FailsAt (p : Prog) (set : ℕ → Bool) (t : Place) : Type 0 where
  pub interp : Interp
  pub state : State
  pub choices : List Choice
  pub run : Fails p set t interp state choices

-- of n candidates the set has those that a certificate uses
pub record AreUsed (n : ℕ) (cert : Cert) (set : Numbers) : Type 0 where
  pub count : length set ≡ n
  pub exact : (c : ℕ) → has set c ≡ (nat_lt c n && uses (cert_of cert).nodes c)

-- there is a task with this number, and this holds of it
pub record IsSo (p : Prog) (k : ℕ) (says : Place → Type 0) : Type 0 where
  pub task : Place
  pub is_there : slice_get (tasks_of p) k ≡ Some task
  pub so : says task

-- the task fails under the set
abbrev pub TaskFails : Prog → ℕ → (ℕ → Bool) → Type 0
TaskFails p k set = IsSo p k (FailsAt p set)

-- the task's clauses behind these lines have this certificate under these candidates; where none is kept they have one behind some lines
abbrev pub IsTaskShown : Prog → ℕ → (ℕ → Bool) → Option Proof → Type 0
IsTaskShown p k used proof = IsSo p k (λ t. IsShown p used t proof)

-- and where certificates are kept it is there
abbrev pub TaskPasses : Bool → Prog → ℕ → (ℕ → Bool) → Option Proof → Type 0
TaskPasses keeps p k used proof = IsTaskShown p k used proof × (keeps ≡ true → is_some proof ≡ true)

-- why the place isn't proved under the set: a run that fails there, or, where the flag says so, a cause to leave it unknown
abbrev pub IsReason : Budget → Prog → (ℕ → Bool) → Place → Bool → Reason → Type 0
IsReason budget p set t false (Refuted cex) = IsRight budget p set t (verdict.Refuted cex)
IsReason budget p set t true (Unknown rounds cause) = IsRight budget p set t (verdict.Unknown rounds cause)
IsReason budget p set t true (Left kept) = IsRight budget p set t (verdict.Left kept)
IsReason budget p set t true (Refuted cex) = ⊥
IsReason budget p set t false (Unknown rounds cause) = ⊥
IsReason budget p set t false (Left kept) = ⊥

-- why the task isn't proved under the set
abbrev pub TaskFinds : Budget → Prog → ℕ → (ℕ → Bool) → Bool → Reason → Type 0
TaskFinds budget p k set unknown reason = IsSo p k (λ t. IsReason budget p set t unknown reason)
