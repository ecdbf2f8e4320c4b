-- How the top call ends.
use Rattle.std.proofs.Common.{◌≡◌, ◌⊎◌, inl, inr, ◌<◌, ℕ, suc, List, length, replicate, Option, Some, None, Bool, true, false, if◌then◌else◌, refl, sym, ap, ◌∙◌, subst, arith}
use Rattle.std.specs.Prelude.{IsTrue, ◌≢◌}
use Rattle.std.proofs.lemmas.List.{length-replicate}
use Rattle.bg_io.specs.Causes.{joined_text, IsTextOf, IsTextOver}
use Rattle.bg_ast.specs.Resolved.{Program}
use Rattle.bg_front.specs.Programs.{IsProgramOf, IsRefusedBy}
use Rattle.bg_front.specs.Refusals.{Refusal, is_limit}
use Rattle.bg_tool.specs.declared.asked.Asked.{Asked}
use Rattle.bg_ends.specs.declared.status.Status.{Status}
use Rattle.bg_ends.specs.declared.status.Status.TheVariants as status
use Rattle.bg_ends.specs.Statuses.{refusal_status, is_report, is_refused}
use Rattle.bg_tool.specs.Reports.{Spells, SpellsGuessed, IsTrueText}
use Rattle.bg_ends.specs.Wrote.{Wrote}
use Rattle.bg_tool.specs.Answers.{IsReport, IsAnswer, IsAnswerFor, WroteSome, Answered, AnsweredSome, Judges, JudgesText, names_for}
use Rattle.bg_cli.specs.declared.job.Job.{Job}
use Rattle.bg_cli.specs.declared.job.Job.TheVariants as job
use Rattle.bg_ends.specs.Refused.{RefusedFor}

-- the status of a refusal is one of refusals
abbrev status_with : Bool → Status
status_with true = status.Limit
status_with false = status.Text

refuses : (b : Bool) → IsTrue (is_refused (status_with b))
refuses true = refl
refuses false = refl

by_limit : (b : Bool) → (if b then status.Limit else status.Text) ≡ status_with b
by_limit true = refl
by_limit false = refl

pub status_refuses : (r : Refusal) → IsTrue (is_refused (refusal_status r))
status_refuses r = subst (λ s. IsTrue (is_refused s)) (sym (by_limit (is_limit r))) (refuses (is_limit r))

-- what is known of texts
pub record Known : Type 0 where
  pub both : (guess : Bool) (bytes : List ℕ) (p : Program) (r : Refusal) → IsProgramOf guess bytes p → IsRefusedBy guess bytes r → ⊥
  pub refusal : (guess : Bool) (bytes : List ℕ) (r s : Refusal) → IsRefusedBy guess bytes r → IsRefusedBy guess bytes s → r ≡ s

one_status : Known → (guess : Bool) (bytes : List ℕ) (r s : Refusal) → IsRefusedBy guess bytes r → IsRefusedBy guess bytes s → refusal_status r ≡ refusal_status s
one_status k guess bytes r s a b = ap refusal_status (k.refusal guess bytes r s a b)

-- a text that is longer than n, where it is told; any one where it isn't
pub long_text : (contents : Option (List ℕ → List ℕ)) (names : List (List ℕ)) (n : ℕ) → IsTextOver contents names n → (bytes : List ℕ) × (IsTextOf contents names bytes × (n < length bytes))
long_text None names n h =
    let byte : ℕ = 0 in
    let e = length-replicate (suc n) byte in
    (replicate (suc n) byte, (tt, omega (arith, e)))
long_text (Some held) names n h = (joined_text held names, (refl, h))

-- an answer is what the job asks for
abbrev WroteFor : Job → Asked → Option (List ℕ → List ℕ) → List (List ℕ) → Status → Option (List ℕ) → Option (List ℕ) → Type 0
WroteFor j asked = Wrote (IsAnswerFor j asked)

pub wrote_for : (j : Job) (asked : Asked) (contents : Option (List ℕ → List ℕ)) (names : List (List ℕ)) (ends : Status) (before now : Option (List ℕ)) → asked.job ≡ j → Wrote (IsAnswer asked) contents names ends before now → WroteFor j asked contents names ends before now
wrote_for j asked contents names ends before now is w = subst (λ b. WroteFor b asked contents names ends before now) is w

-- where no certificate is checked, the files of the program alone are read
pub names_of_rest : (j : Job) (files : List (List ℕ)) (cert : List ℕ) → (j ≡ job.Check → ⊥) → names_for j files cert ≡ files
names_of_rest job.Verify files cert h = refl
names_of_rest job.Annotate files cert h = refl
names_of_rest job.Certify files cert h = refl
names_of_rest job.Check files cert h = absurd (h refl)
names_of_rest job.Generate files cert h = refl
names_of_rest job.Bench files cert h = refl

-- an answer is one of a program that the bytes spell
answer_spells : (j : Job) (asked : Asked) (bytes : List ℕ) (ends : Status) (text : List ℕ) → IsAnswerFor j asked bytes ends text → (p : Program) × IsProgramOf asked.guess bytes p
answer_spells job.Verify asked bytes ends text a = (a.sound.report.program, a.sound.report.spelled)
answer_spells job.Annotate asked bytes ends text a = (a.program, a.spelled.0)
answer_spells job.Certify asked bytes ends text a = (a.program, a.spelled)
answer_spells job.Check asked bytes ends text a = (a.sound.report.program, a.sound.report.spelled)
answer_spells job.Generate asked bytes ends text a = (a.sound.report.program, a.sound.report.spelled)
answer_spells job.Bench asked bytes ends text a = (a.program, a.spelled)

-- a program that the bytes spell within the limits is one that they spell
spells_plain : (bytes : List ℕ) (p : Program) → IsProgramOf false bytes p → Spells bytes p
spells_plain bytes p s =
    let w : Spells bytes s.written = record { tokens = s.tokens; spelled = s.spelled; typed = s.typed } in
    subst (Spells bytes) (sym s.is) w

spells_guessed : (bytes : List ℕ) (p : Program) → IsProgramOf true bytes p → SpellsGuessed bytes p
spells_guessed bytes p s =
    record { written = s.written; spells = record { tokens = s.tokens; spelled = s.spelled; typed = s.typed }; is = s.is }

-- the same report is true of a program that is spelled in a wider sense
widened : {A B : List ℕ → Program → Type 0} (history : Bool) (bytes : List ℕ) (ends : Status) (text : List ℕ) → ((p : Program) → A bytes p → B bytes p) → IsTrueText A history bytes ends text → IsTrueText B history bytes ends text
widened history bytes ends text f t =
    let r = t.report in
    record {
      front = t.front;
      report = record { program = r.program; spelled = f r.program r.spelled; outcome = r.outcome; sound = r.sound; is = r.is; gives = r.gives };
      behind = t.behind;
      is = t.is;
      none = t.none;
    }

wrote_wider : {A B : List ℕ → Program → Type 0} (history : Bool) (contents : Option (List ℕ → List ℕ)) (names : List (List ℕ)) (ends : Status) (before now : Option (List ℕ)) → ((bytes : List ℕ) (p : Program) → A bytes p → B bytes p) → Wrote (IsTrueText A history) contents names ends before now → Wrote (IsTrueText B history) contents names ends before now
wrote_wider history contents names ends before now f w =
    record {
      text = w.text;
      may = record { bytes = w.may.bytes; read = w.may.read; report = widened history w.may.bytes ends w.text (f w.may.bytes) w.may.report };
      written = w.written;
    }

wrote_true : (asked : Asked) (contents : Option (List ℕ → List ℕ)) (names : List (List ℕ)) (ends : Status) (before now : Option (List ℕ)) → Wrote (IsReport asked) contents names ends before now → Wrote (IsTrueText (IsProgramOf asked.guess) asked.history) contents names ends before now
wrote_true asked contents names ends before now w =
    record {
      text = w.text;
      may = record { bytes = w.may.bytes; read = w.may.read; report = w.may.report.sound };
      written = w.written;
    }

-- a report is true of the program that the bytes spell
pub wrote_plain : (asked : Asked) (contents : Option (List ℕ → List ℕ)) (names : List (List ℕ)) (ends : Status) (before now : Option (List ℕ)) → asked.guess ≡ false → Wrote (IsReport asked) contents names ends before now → Wrote (IsTrueText Spells asked.history) contents names ends before now
wrote_plain asked contents names ends before now plain w =
    let true_of = λ (guess : Bool). Wrote (IsTrueText (IsProgramOf guess) asked.history) contents names ends before now in
    wrote_wider asked.history contents names ends before now spells_plain (subst true_of plain (wrote_true asked contents names ends before now w))

-- or of that with its guesses
pub wrote_guessed : (asked : Asked) (contents : Option (List ℕ → List ℕ)) (names : List (List ℕ)) (ends : Status) (before now : Option (List ℕ)) → asked.guess ≡ true → Wrote (IsReport asked) contents names ends before now → Wrote (IsTrueText SpellsGuessed asked.history) contents names ends before now
wrote_guessed asked contents names ends before now guesses w =
    let true_of = λ (guess : Bool). Wrote (IsTrueText (IsProgramOf guess) asked.history) contents names ends before now in
    wrote_wider asked.history contents names ends before now spells_guessed (subst true_of guesses (wrote_true asked contents names ends before now w))

pub wrote_some : (asked : Asked) (contents : Option (List ℕ → List ℕ)) (names : List (List ℕ)) (bytes : List ℕ) (before now : Option (List ℕ)) → IsTextOf contents names bytes → AnsweredSome asked bytes before now → WroteSome asked contents names before now
wrote_some asked contents names bytes before now r (inl e) = inl e
wrote_some asked contents names bytes before now r (inr f) =
    inr (record { ends = f.ends; text = f.text; may = record { bytes = bytes; read = r; report = f.answer }; count = f.count; written = f.written })

held_is : (contents : Option (List ℕ → List ℕ)) (held : List ℕ → List ℕ) (names : List (List ℕ)) (bytes : List ℕ) → contents ≡ Some held → IsTextOf contents names bytes → bytes ≡ joined_text held names
held_is contents held names bytes told r = subst (λ c. IsTextOf c names bytes) told r

-- what an answer says of its text, where no fault was counted: it has a program, it is refused, or memory ran out
pub data Said (guess : Bool) (bytes : List ℕ) (ends : Status) : Type 0 where
  Spelled : (p : Program) → IsProgramOf guess bytes p → IsTrue (is_report ends) → Said guess bytes ends
  Denied : (r : Refusal) → IsRefusedBy guess bytes r → ends ≡ refusal_status r → Said guess bytes ends
  Short : ends ≡ status.Memory → Said guess bytes ends

said_program : Known → (guess : Bool) (bytes : List ℕ) (ends : Status) → Said guess bytes ends → (p : Program) → IsProgramOf guess bytes p → IsTrue (is_report ends) ⊎ (ends ≡ status.Memory)
said_program k guess bytes ends (Spelled q s h) p t = inl h
said_program k guess bytes ends (Denied r d e) p t = absurd (k.both guess bytes p r t d)
said_program k guess bytes ends (Short e) p t = inr e

said_refused : Known → (guess : Bool) (bytes : List ℕ) (ends : Status) → Said guess bytes ends → (r : Refusal) → IsRefusedBy guess bytes r → (ends ≡ refusal_status r) ⊎ (ends ≡ status.Memory)
said_refused k guess bytes ends (Spelled q s h) r t = absurd (k.both guess bytes q r s t)
said_refused k guess bytes ends (Denied d a e) r t = inl (e ∙ one_status k guess bytes d r a t)
said_refused k guess bytes ends (Short e) r t = inr e

said_none : (guess : Bool) (bytes : List ℕ) (ends : Status) → Said guess bytes ends → ((p : Program) → IsProgramOf guess bytes p → ⊥) → IsTrue (is_refused ends) ⊎ (ends ≡ status.Memory)
said_none guess bytes ends (Spelled q s h) n = absurd (n q s)
said_none guess bytes ends (Denied r d e) n = inl (subst (λ s. IsTrue (is_refused s)) (sym e) (status_refuses r))
said_none guess bytes ends (Short e) n = inr e

pub judges : Known → (guess : Bool) (contents : Option (List ℕ → List ℕ)) (names : List (List ℕ)) (bytes : List ℕ) (ends : Status) → IsTextOf contents names bytes → Said guess bytes ends → Judges guess contents names ends
judges k guess contents names bytes ends read s = record {
  program = λ held p told t. said_program k guess bytes ends s p (subst (λ bs. IsProgramOf guess bs p) (sym (held_is contents held names bytes told read)) t);
  refused = λ held r told t. said_refused k guess bytes ends s r (subst (λ bs. IsRefusedBy guess bs r) (sym (held_is contents held names bytes told read)) t);
  none = λ held told n. said_none guess bytes ends s (λ p t. n p (subst (λ bs. IsProgramOf guess bs p) (held_is contents held names bytes told read) t));
}

pub judges_text : Known → (guess : Bool) (bytes : List ℕ) (ends : Status) → Said guess bytes ends → JudgesText guess bytes ends
judges_text k guess bytes ends s = record {
  program = said_program k guess bytes ends s;
  refused = said_refused k guess bytes ends s;
  none = said_none guess bytes ends s;
}

module _ {A B : Type 0} (asked : Asked) (bytes : List ℕ) (before now lines line : Option (List ℕ)) where
  -- what the answer over a text within the limit says of it
  pub said : (ends : Status) → (IsTrue (is_report ends) → Answered asked bytes ends before now) → (IsTrue (is_refused ends) → RefusedFor asked.guess bytes ends lines line) → (ends ≡ status.Write → A ⊎ B) → (A → ⊥) → (B → ⊥) → (ends ≢ status.Usage) × (ends ≢ status.Read) → Said asked.guess bytes ends
  said status.Verified r f w a b o = let q = r refl in let p = answer_spells asked.job asked bytes status.Verified q.text q.answer in Spelled p.0 p.1 refl
  said status.Refuted r f w a b o = let q = r refl in let p = answer_spells asked.job asked bytes status.Refuted q.text q.answer in Spelled p.0 p.1 refl
  said status.Unknown r f w a b o = let q = r refl in let p = answer_spells asked.job asked bytes status.Unknown q.text q.answer in Spelled p.0 p.1 refl
  said status.Text r f w a b o = let q = f refl in Denied q.reason q.refused q.gives
  said status.Limit r f w a b o = let q = f refl in Denied q.reason q.refused q.gives
  said status.Usage r f w a b o = absurd (o.0 refl)
  said status.Read r f w a b o = absurd (o.1 refl)
  said status.Write r f w a b o = absurd (elim (w refl) [ inl x ↦ a x | inr y ↦ b y ])
  said status.Memory r f w a b o = Short refl

-- the same of a text that is refused without being read
pub said_refusal : {A : Type 0} (guess : Bool) (bytes : List ℕ) (ends : Status) (lines line : Option (List ℕ)) → (IsTrue (is_refused ends) → RefusedFor guess bytes ends lines line) → IsTrue (is_refused ends) ⊎ ((ends ≡ status.Write) ⊎ (ends ≡ status.Memory)) → (ends ≡ status.Write → A) → (A → ⊥) → Said guess bytes ends
said_refusal guess bytes ends lines line f (inl h) w a = let q = f h in Denied q.reason q.refused q.gives
said_refusal guess bytes ends lines line f (inr (inl e)) w a = absurd (a (w e))
said_refusal guess bytes ends lines line f (inr (inr e)) w a = Short e
