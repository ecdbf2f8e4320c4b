-- What a check of a certificate writes, and how it ends.
use Rattle.std.specs.Prelude.{◌≡◌, ◌⊎◌, ◌<◌, ◌≤◌, ℕ, Bool, false, List, Option, Some, take, length}
use Rattle.bg_io.specs.Causes.{joined, joined_text, IsTextOf}
use Rattle.bg_ast.specs.Resolved.{Program}
use Rattle.bg_ast.specs.Meaning.{meaning_of}
use Rattle.bg_ast.specs.Execution.{Interp}
use Rattle.bg_sense.specs.Claims.{Meets, IsSetOf, Inductive, Safe}
use Rattle.bg_front.specs.Programs.{IsProgramOf}
use Rattle.bg_certtext.specs.Views.{CertOf}
use Rattle.bg_certtext.specs.Texts.{text_of}
use Rattle.bg_certtext.specs.Spellable.{IsSpellable}
use Rattle.bg_accept.specs.Accepted.{retained_by}
use Rattle.bg_accept.specs.Answers.{AnswerOf, Accepted}
use Rattle.bg_confirm.specs.Accepted.{IsAccepted, IsAnswer}
use Rattle.bg_accept.specs.Texts.{answer_text}
use Rattle.bg_ends.specs.declared.status.Status.{Status}
use Rattle.bg_ends.specs.declared.status.Status.TheVariants as status
use Rattle.bg_ends.specs.Refused.{RefusedFor, Refuses}
use Rattle.bg_recheck.specs.Refusals.{CertRefusal, TooLong, OtherVersion, BadLine, IsCertRefusedBy, cert_line, cert_status, most_bytes}

-- some interpretation meets the program, the retained candidates are mutually inductive, and no execution of any implementation fails, of
-- any number of steps
pub record AreSafe (p : Program) (set : ℕ → Bool) : Type 0 where
  pub interp : Interp
  pub meets : Meets (meaning_of p) interp
  pub candidates : IsSetOf (meaning_of p) set
  pub inductive : Inductive (meaning_of p) set
  pub safe : (k : ℕ) → k < length p.implementations → Safe (meaning_of p) set k

abbrev pub status_for : AnswerOf → Status
status_for Accepted = status.Verified
status_for _ = status.Refuted

-- the bytes are the text of a certificate, and the line is what the program answers of it, with the status for that
pub record IsTold (program : Program) (certificate : List ℕ) (ends : Status) (text : List ℕ) : Type 0 where
  pub cert : CertOf
  pub spellable : IsSpellable cert
  pub read : certificate ≡ text_of cert
  pub answer : AnswerOf
  pub answered : IsAnswer program cert answer
  pub is : text ≡ answer_text program answer
  pub gives : ends ≡ status_for answer

-- the bytes spell a program, the certificate's bytes a certificate, and the line is what is answered of it; where it is accepted, the
-- program is safe under what it retains, whatever wrote it
pub record IsChecked (bytes certificate : List ℕ) (ends : Status) (text : List ℕ) : Type 0 where
  pub program : Program
  pub spelled : IsProgramOf false bytes program
  pub cert : CertOf
  pub spellable : IsSpellable cert
  pub read : certificate ≡ text_of cert
  pub answer : AnswerOf
  pub answered : IsAnswer program cert answer
  pub is : text ≡ answer_text program answer
  pub gives : ends ≡ status_for answer
  pub safe : ends ≡ status.Verified → AreSafe program (retained_by program cert)

-- such a line of these bytes was written, whole
pub record TellsOf (bytes certificate : List ℕ) (ends : Status) (before now : Option (List ℕ)) : Type 0 where
  pub text : List ℕ
  pub checked : IsChecked bytes certificate ends text
  pub written : now ≡ joined before text

-- nothing was written, or the first bytes of such a line
pub record TellsFrontOf (bytes certificate : List ℕ) (before now : Option (List ℕ)) : Type 0 where
  pub ends : Status
  pub text : List ℕ
  pub checked : IsChecked bytes certificate ends text
  pub count : ℕ
  pub written : now ≡ joined before (take count text)

abbrev pub TellsSomeOf : List ℕ → List ℕ → Option (List ℕ) → Option (List ℕ) → Type 0
TellsSomeOf bytes certificate before now = (now ≡ before) ⊎ TellsFrontOf bytes certificate before now

-- such a line, of what the files hold
pub record MayTell (contents : Option (List ℕ → List ℕ)) (names : List (List ℕ)) (cert : List (List ℕ)) (ends : Status) (text : List ℕ) : Type 0 where
  pub bytes : List ℕ
  pub read : IsTextOf contents names bytes
  pub certificate : List ℕ
  pub cert_read : IsTextOf contents cert certificate
  pub checked : IsChecked bytes certificate ends text

-- such a line was written, whole
pub record Tells (contents : Option (List ℕ → List ℕ)) (names : List (List ℕ)) (cert : List (List ℕ)) (ends : Status) (before now : Option (List ℕ)) : Type 0 where
  pub text : List ℕ
  pub may : MayTell contents names cert ends text
  pub written : now ≡ joined before text

-- nothing was written, or the first bytes of such a line
pub record TellsFront (contents : Option (List ℕ → List ℕ)) (names : List (List ℕ)) (cert : List (List ℕ)) (before now : Option (List ℕ)) : Type 0 where
  pub ends : Status
  pub text : List ℕ
  pub may : MayTell contents names cert ends text
  pub count : ℕ
  pub written : now ≡ joined before (take count text)

abbrev pub TellsSome : Option (List ℕ → List ℕ) → List (List ℕ) → List (List ℕ) → Option (List ℕ) → Option (List ℕ) → Type 0
TellsSome contents names cert before now = (now ≡ before) ⊎ TellsFront contents names cert before now

-- a certificate is refused behind a program's text, which spells one
pub record RefusedCert (bytes certificate : List ℕ) (ends : Status) (before now : Option (List ℕ)) : Type 0 where
  pub program : Program
  pub spelled : IsProgramOf false bytes program
  pub reason : CertRefusal
  pub refused : IsCertRefusedBy certificate reason
  pub gives : ends ≡ cert_status reason
  pub written : now ≡ joined before (cert_line reason)

-- the program's text is refused, or the certificate's behind it
abbrev pub RefusedEither : List ℕ → List ℕ → Status → Option (List ℕ) → Option (List ℕ) → Type 0
RefusedEither bytes certificate ends before now =
    RefusedFor false bytes ends before now ⊎ RefusedCert bytes certificate ends before now

-- the text of the files spells a program
pub record SpellsSome (contents : Option (List ℕ → List ℕ)) (names : List (List ℕ)) : Type 0 where
  pub bytes : List ℕ
  pub read : IsTextOf contents names bytes
  pub program : Program
  pub spelled : IsProgramOf false bytes program

-- a certificate that is too long is refused before the program is looked at, another one behind it
abbrev pub Precedes : CertRefusal → Option (List ℕ → List ℕ) → List (List ℕ) → Type 0
Precedes TooLong contents names = Unit {0}
Precedes OtherVersion contents names = SpellsSome contents names
Precedes (BadLine n) contents names = SpellsSome contents names

-- the certificate is refused for a reason that gives the status, and its line was written, whole
pub record RefusesCert (contents : Option (List ℕ → List ℕ)) (names : List (List ℕ)) (cert : List (List ℕ)) (ends : Status) (before now : Option (List ℕ)) : Type 0 where
  pub certificate : List ℕ
  pub read : IsTextOf contents cert certificate
  pub reason : CertRefusal
  pub refused : IsCertRefusedBy certificate reason
  pub behind : Precedes reason contents names
  pub gives : ends ≡ cert_status reason
  pub written : now ≡ joined before (cert_line reason)

abbrev pub RefusesEither : Option (List ℕ → List ℕ) → List (List ℕ) → List (List ℕ) → Status → Option (List ℕ) → Option (List ℕ) → Type 0
RefusesEither contents names cert ends before now =
    Refuses false contents names ends before now ⊎ RefusesCert contents names cert ends before now

-- where no fault was counted and what the files hold is told: a program and the text of a certificate within its limit are answered, or
-- the certificate's text is refused; an accepted one is answered so; unless memory ran out
pub record Rechecks (contents : Option (List ℕ → List ℕ)) (names : List (List ℕ)) (cert : List (List ℕ)) (ends : Status) : Type 0 where
  pub answered : (held : List ℕ → List ℕ) (p : Program) → contents ≡ Some held → IsProgramOf false (joined_text held names) p →
      length (joined_text held cert) ≤ most_bytes →
      (ends ≡ status.Verified) ⊎ ((ends ≡ status.Refuted) ⊎ ((ends ≡ status.Text) ⊎ (ends ≡ status.Memory)))
  pub accepted : (held : List ℕ → List ℕ) (p : Program) (c : CertOf) → contents ≡ Some held → IsProgramOf false (joined_text held names) p →
      length (joined_text held cert) ≤ most_bytes → IsSpellable c → joined_text held cert ≡ text_of c → IsAccepted p c →
      (ends ≡ status.Verified) ⊎ (ends ≡ status.Memory)
