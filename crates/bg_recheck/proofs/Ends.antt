-- How the check of a certificate ends.
use Rattle.std.proofs.Common.{◌≡◌, ◌⊎◌, inl, inr, ◌<◌, ◌≤◌, ℕ, suc, List, [], ◌++◌, length, replicate, Option, Some, None, Bool, false, Result, Err, refl, sym, ap, ◌∙◌, subst, arith}
use Rattle.std.specs.Prelude.{IsTrue, ◌≢◌}
use Rattle.std.proofs.lemmas.List.{length-replicate, append-nil}
use Rattle.bg_io.specs.Causes.{joined_text, IsTextOf, IsTextOver}
use Rattle.bg_ast.specs.Resolved.{Program}
use Rattle.bg_front.specs.Programs.{IsProgramOf, IsRefusedBy}
use Rattle.bg_front.specs.Refusals as front
use Rattle.bg_certtext.specs.declared.error.ReadError.{ReadError}
use Rattle.bg_certtext.specs.declared.error.ReadError.TheVariants as errors
use Rattle.bg_certtext.specs.declared.text.CertText.{CertText}
use Rattle.bg_certtext.specs.Views.{CertOf}
use Rattle.bg_certtext.specs.Texts.{text_of}
use Rattle.bg_certtext.specs.Spellable.{IsSpellable}
use Rattle.bg_certtext.specs.Reading.{Reads, GivesBack}
use Rattle.bg_confirm.specs.Accepted.{IsAccepted, IsAnswer}
use Rattle.bg_accept.specs.Answers.{AnswerOf, Accepted, NoInterp, NotRetained, NotShown, NotRequired}
use Rattle.bg_ends.specs.declared.status.Status.{Status}
use Rattle.bg_ends.specs.declared.status.Status.TheVariants as status
use Rattle.bg_ends.specs.Statuses.{is_report, is_refused}
use Rattle.bg_recheck.specs.Refusals.{CertRefusal, TooLong, OtherVersion, BadLine, IsCertRefusedBy, cert_status, most_bytes}
use Rattle.bg_recheck.specs.Rechecks.{status_for, IsChecked, TellsOf, TellsSomeOf, TellsSome, RefusedEither, Rechecks}

-- what is known of texts
pub record Known : Type 0 where
  pub program : (guess : Bool) (bytes : List ℕ) (p q : Program) → IsProgramOf guess bytes p → IsProgramOf guess bytes q → p ≡ q
  pub both : (guess : Bool) (bytes : List ℕ) (p : Program) (r : front.Refusal) → IsProgramOf guess bytes p → IsRefusedBy guess bytes r → ⊥
  pub reads : (c : CertOf) (r : Result CertText ReadError) → IsSpellable c → Reads (text_of c) r → GivesBack c r
  pub front : (c d : CertOf) (more : List ℕ) → IsSpellable c → IsSpellable d → text_of c ++ more ≡ text_of d → (c ≡ d) × (more ≡ [])
  pub accepted : (p : Program) (c : CertOf) (a : AnswerOf) → IsAccepted p c → IsAnswer p c a → a ≡ Accepted

-- a text that is longer than n, where it is told; any one where it isn't
pub long_text : (contents : Option (List ℕ → List ℕ)) (names : List (List ℕ)) (n : ℕ) → IsTextOver contents names n → (bytes : List ℕ) × (IsTextOf contents names bytes × (n < length bytes))
long_text None names n h =
    let byte : ℕ = 0 in
    let e = length-replicate (suc n) byte in
    (replicate (suc n) byte, (tt, omega (arith, e)))
long_text (Some held) names n h = (joined_text held names, (refl, h))

held_is : (contents : Option (List ℕ → List ℕ)) (held : List ℕ → List ℕ) (names : List (List ℕ)) (bytes : List ℕ) → contents ≡ Some held → IsTextOf contents names bytes → bytes ≡ joined_text held names
held_is contents held names bytes told r = subst (λ c. IsTextOf c names bytes) told r

-- what the check of two texts says of them, where no fault was counted: an answer, a refusal of either, or memory ran out
pub data Said (bytes certificate : List ℕ) (ends : Status) : Type 0 where
  Answered : (text : List ℕ) → IsChecked bytes certificate ends text → Said bytes certificate ends
  Denied : (r : front.Refusal) → IsRefusedBy false bytes r → Said bytes certificate ends
  CertDenied : (r : CertRefusal) → IsCertRefusedBy certificate r → ends ≡ cert_status r → Said bytes certificate ends
  Short : ends ≡ status.Memory → Said bytes certificate ends

-- the status of an answer is one of two
pub answer_gives : (a : AnswerOf) (ends : Status) → ends ≡ status_for a → (ends ≡ status.Verified) ⊎ (ends ≡ status.Refuted)
answer_gives Accepted ends e = inl e
answer_gives NoInterp ends e = inr e
answer_gives (NotRetained name) ends e = inr e
answer_gives (NotShown a) ends e = inr e
answer_gives (NotRequired k i) ends e = inr e

said_answered : Known → (bytes certificate : List ℕ) (ends : Status) → Said bytes certificate ends → (p : Program) → IsProgramOf false bytes p → length certificate ≤ most_bytes → (ends ≡ status.Verified) ⊎ ((ends ≡ status.Refuted) ⊎ ((ends ≡ status.Text) ⊎ (ends ≡ status.Memory)))
said_answered k bytes certificate ends (Answered text h) p t l = elim (answer_gives h.answer ends h.gives) [ inl e ↦ inl e | inr e ↦ inr (inl e) ]
said_answered k bytes certificate ends (Denied r d) p t l = absurd (k.both false bytes p r t d)
said_answered k bytes certificate ends (CertDenied TooLong d e) p t l = absurd (omega (arith, d, l))
said_answered k bytes certificate ends (CertDenied OtherVersion d e) p t l = inr (inr (inl e))
said_answered k bytes certificate ends (CertDenied (BadLine n) d e) p t l = inr (inr (inl e))
said_answered k bytes certificate ends (Short e) p t l = inr (inr (inr e))

-- the certificate that was read is the one whose text this is, and the program the one that the bytes spell
accepted_here : Known → (bytes certificate : List ℕ) (ends : Status) (text : List ℕ) → IsChecked bytes certificate ends text → (p : Program) (c : CertOf) → IsProgramOf false bytes p → IsSpellable c → certificate ≡ text_of c → IsAccepted p c → ends ≡ status.Verified
accepted_here k bytes certificate ends text h p c t spells is ok =
    let one : p ≡ h.program = k.program false bytes p h.program t h.spelled in
    let same = k.front c h.cert [] spells h.spellable (append-nil (text_of c) ∙ (sym is ∙ h.read)) in
    let there : IsAccepted h.program h.cert = subst (λ (d : CertOf). IsAccepted h.program d) same.0 (subst (λ (q : Program). IsAccepted q c) one ok) in
    h.gives ∙ ap status_for (k.accepted h.program h.cert h.answer there h.answered)

not_refused : Known → (certificate : List ℕ) (c : CertOf) (e : ReadError) → IsSpellable c → certificate ≡ text_of c → Reads certificate (Err e) → GivesBack c (Err e)
not_refused k certificate c e spells is r = k.reads c (Err e) spells (subst (λ (b : List ℕ). Reads b (Err e)) is r)

said_accepted : Known → (bytes certificate : List ℕ) (ends : Status) → Said bytes certificate ends → (p : Program) (c : CertOf) → IsProgramOf false bytes p → length certificate ≤ most_bytes → IsSpellable c → certificate ≡ text_of c → IsAccepted p c → (ends ≡ status.Verified) ⊎ (ends ≡ status.Memory)
said_accepted k bytes certificate ends (Answered text h) p c t l spells is ok = inl (accepted_here k bytes certificate ends text h p c t spells is ok)
said_accepted k bytes certificate ends (Denied r d) p c t l spells is ok = absurd (k.both false bytes p r t d)
said_accepted k bytes certificate ends (CertDenied TooLong d e) p c t l spells is ok = absurd (omega (arith, d, l))
said_accepted k bytes certificate ends (CertDenied OtherVersion d e) p c t l spells is ok = absurd (not_refused k certificate c errors.Version spells is d)
said_accepted k bytes certificate ends (CertDenied (BadLine n) d e) p c t l spells is ok = absurd (not_refused k certificate c (errors.BadLine n) spells is d)
said_accepted k bytes certificate ends (Short e) p c t l spells is ok = inr e

module _ (contents : Option (List ℕ → List ℕ)) (names cert : List (List ℕ)) (ends : Status) where
  -- both texts were read
  pub rechecks : Known → (bytes certificate : List ℕ) → IsTextOf contents names bytes → IsTextOf contents cert certificate → Said bytes certificate ends → Rechecks contents names cert ends
  rechecks k bytes certificate read cert_read s = record {
    answered = λ held p told t l.
        let same = held_is contents held names bytes told read in
        let cert_same = held_is contents held cert certificate told cert_read in
        said_answered k bytes certificate ends s p (subst (λ (b : List ℕ). IsProgramOf false b p) (sym same) t) (subst (λ (b : List ℕ). length b ≤ most_bytes) (sym cert_same) l);
    accepted = λ held p c told t l spells is ok.
        let same = held_is contents held names bytes told read in
        let cert_same = held_is contents held cert certificate told cert_read in
        said_accepted k bytes certificate ends s p c (subst (λ (b : List ℕ). IsProgramOf false b p) (sym same) t) (subst (λ (b : List ℕ). length b ≤ most_bytes) (sym cert_same) l) spells (cert_same ∙ is) ok;
  }

-- what was written of two texts was written of what the files hold
pub tells_some : (contents : Option (List ℕ → List ℕ)) (names cert : List (List ℕ)) (bytes certificate : List ℕ) (before now : Option (List ℕ)) → IsTextOf contents names bytes → IsTextOf contents cert certificate → TellsSomeOf bytes certificate before now → TellsSome contents names cert before now
tells_some contents names cert bytes certificate before now read cert_read (inl e) = inl e
tells_some contents names cert bytes certificate before now read cert_read (inr f) =
    inr (record {
      ends = f.ends;
      text = f.text;
      may = record { bytes = bytes; read = read; certificate = certificate; cert_read = cert_read; checked = f.checked };
      count = f.count;
      written = f.written;
    })

module _ {A B : Type 0} (bytes certificate : List ℕ) (before now lines line : Option (List ℕ)) where
  -- what the answer over two texts says of them
  pub said : (ends : Status) → (IsTrue (is_report ends) → TellsOf bytes certificate ends before now) → (IsTrue (is_refused ends) → RefusedEither bytes certificate ends lines line) → (ends ≡ status.Write → A ⊎ B) → (A → ⊥) → (B → ⊥) → (ends ≢ status.Usage) × ((ends ≢ status.Read) × (ends ≢ status.Unknown)) → Said bytes certificate ends
  said status.Verified r f w a b o = let q = r refl in Answered q.text q.checked
  said status.Refuted r f w a b o = let q = r refl in Answered q.text q.checked
  said status.Unknown r f w a b o = absurd (o.1.1 refl)
  said status.Text r f w a b o = elim (f refl) [ inl q ↦ Denied q.reason q.refused | inr q ↦ CertDenied q.reason q.refused q.gives ]
  said status.Limit r f w a b o = elim (f refl) [ inl q ↦ Denied q.reason q.refused | inr q ↦ CertDenied q.reason q.refused q.gives ]
  said status.Usage r f w a b o = absurd (o.0 refl)
  said status.Read r f w a b o = absurd (o.1.0 refl)
  said status.Write r f w a b o = absurd (elim (w refl) [ inl x ↦ a x | inr y ↦ b y ])
  said status.Memory r f w a b o = Short refl
