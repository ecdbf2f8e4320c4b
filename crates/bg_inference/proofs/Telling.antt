-- What a report tells of a true outcome is true.
use Rattle.std.proofs.Common.{ℕ, Bool, List}
use Rattle.bg_ast.specs.Syntax.{Prog}
use Rattle.bg_ast.specs.Execution.{Interp, State, Choice, Place}
use Rattle.bg_sense.specs.Claims.{Fails}
use Rattle.bg_cert.specs.Certs.{CertOf}
use Rattle.bg_tree.specs.declared.outcome.Budget.{Budget}
use Rattle.bg_sound.specs.Told as t
use Rattle.bg_sound.specs.Sound.{IsTrueAt}
use Rattle.bg_numbered.specs.Lines.{Line}
use Rattle.bg_task.specs.Certified.{HasCertificateOf}
use Rattle.bg_check.specs.declared.verdict.Cause.{Cause}
use Rattle.bg_check.specs.declared.verdict.Verdict.{Verdict}
use Rattle.bg_check.specs.declared.verdict.Verdict.TheVariants.{Proved, Refuted, Unknown, Left}
use Rattle.bg_check.specs.Verdicts.{IsRight}
use Rattle.bg_check.specs.Outcomes.{verdict_of}
use Rattle.bg_check.proofs.Shown.{certified}

-- a right verdict on a place whose certificates are right is true
pub true_at : (p : Prog) (set : ℕ → Bool) (budget : Budget) (words : ℕ → Cause → t.Why) (u : Place) → ((lines : List Line) (cert : CertOf) → HasCertificateOf p set u lines cert → (i : Interp) (s : State) (cs : List Choice) → Fails p set u i s cs → ⊥) → (v : Verdict) → IsRight budget p set u v → IsTrueAt p set u (verdict_of words v)
true_at p set budget words u none (Proved proof) h =
    let x = certified p set u proof h in none x.lines x.cert x.certificate
true_at p set budget words u none (Refuted cex) h = (h.0, h.1.1)
true_at p set budget words u none (Unknown rounds cause) h = tt
true_at p set budget words u none (Left kept) h = tt
