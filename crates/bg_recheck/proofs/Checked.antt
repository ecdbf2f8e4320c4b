-- What is answered of a program and a certificate is answered of their texts; and how a refusal's line is written.
use Rattle.std.proofs.Common.{◌≡◌, ◌⊎◌, inl, inr, ℕ, List, Option, codes, false, refl, sym, ap, ◌∙◌, subst}
use Rattle.std.proofs.lemmas.Bool.{false≢true}
use Rattle.std.specs.Fmt.{digits}
use Rattle.std.specs.Prelude.{IsTrue, ◌≢◌}
use Rattle.bg_io.specs.Causes.{joined}
use Rattle.bg_ast.specs.Resolved.{Program}
use Rattle.bg_front.specs.Programs.{IsProgramOf}
use Rattle.bg_accept.specs.Accepted.{retained_by}
use Rattle.bg_confirm.specs.Accepted.{IsAccepted, IsAnswer}
use Rattle.bg_accept.specs.Answers.{AnswerOf, Accepted, NoInterp, NotRetained, NotShown, NotRequired}
use Rattle.bg_certtext.specs.Views.{CertOf}
use Rattle.bg_ends.specs.declared.status.Status.{Status}
use Rattle.bg_ends.specs.declared.status.Status.TheVariants as status
use Rattle.bg_ends.specs.Statuses.{is_refused}
use Rattle.bg_recheck.specs.Refusals.{CertRefusal, TooLong, IsCertRefusedBy, cert_line, cert_status}
use Rattle.bg_recheck.specs.Views.{Spells}
use Rattle.bg_recheck.specs.Rechecks.{status_for, AreSafe, IsTold, IsChecked, RefusedCert}

-- an answer that ends with 0 is that the certificate is accepted
verified_accepts : (p : Program) (c : CertOf) (a : AnswerOf) → status_for a ≡ status.Verified → IsAnswer p c a → IsAccepted p c
verified_accepts p c Accepted e h = h
verified_accepts p c NoInterp e h = absurd cc
verified_accepts p c (NotRetained name) e h = absurd cc
verified_accepts p c (NotShown a) e h = absurd cc
verified_accepts p c (NotRequired k i) e h = absurd cc

pub checked : (bytes certificate : List ℕ) (p : Program) (ends : Status) (text : List ℕ) → IsProgramOf false bytes p → ((c : CertOf) → IsAccepted p c → AreSafe p (retained_by p c)) → IsTold p certificate ends text → IsChecked bytes certificate ends text
checked bytes certificate p ends text spelled safe t =
    record {
      program = p;
      spelled = spelled;
      cert = t.cert;
      spellable = t.spellable;
      read = t.read;
      answer = t.answer;
      answered = t.answered;
      is = t.is;
      gives = t.gives;
      safe = λ e. safe t.cert (verified_accepts p t.cert t.answer (sym t.gives ∙ e) t.answered);
    }

-- a call that ended with a refusal of a certificate wrote its line
pub line_written : (reason : CertRefusal) (ends : Status) (before now : Option (List ℕ)) (line : List ℕ) → IsTrue (is_refused ends) → (ends ≡ cert_status reason) ⊎ (ends ≡ status.Write) → (ends ≡ cert_status reason → ends ≢ status.Write → now ≡ joined before line) → line ≡ cert_line reason → (ends ≡ cert_status reason) × (now ≡ joined before (cert_line reason))
line_written reason ends before now line is (inl e) w same = (e, w e (λ wrote. false≢true (subst (λ s. IsTrue (is_refused s)) wrote is)) ∙ ap (joined before) same)
line_written reason ends before now line is (inr e) w same = absurd (false≢true (subst (λ s. IsTrue (is_refused s)) e is))

pub refused_cert : (bytes certificate : List ℕ) (reason : CertRefusal) (ends : Status) (before now : Option (List ℕ)) → Spells bytes → IsCertRefusedBy certificate reason → (ends ≡ cert_status reason) × (now ≡ joined before (cert_line reason)) → RefusedCert bytes certificate ends before now
refused_cert bytes certificate reason ends before now spells refused told =
    record { program = spells.0; spelled = spells.1; reason = reason; refused = refused; gives = told.0; written = told.1 }

-- the line of a certificate that is too long
pub long_line : codes "error: limit bytes 67108865\n" ≡ cert_line TooLong
unfolding digits
long_line = refl
