-- What the top call claims of how it ends.
use Rattle.std.specs.Prelude.{◌≡◌, ◌⊎◌, ◌<◌, ◌≤◌, ℕ, Bool, true, false, List, [], ◌∷◌, ◌++◌, Option, Some, take, IsTrue}
use Rattle.bg_io.specs.Causes.{joined, joined_text}
use Rattle.bg_ast.specs.Resolved.{Program}
use Rattle.bg_ast.specs.Meaning.{meaning_of}
use Rattle.bg_text.specs.Trees.{Decl}
use Rattle.bg_front.specs.Programs.{IsProgramOf, IsProgramFrom, IsRefusedBy}
use Rattle.bg_front.specs.Refusals.{Refusal}
use Rattle.bg_check.specs.Kept.{why_of}
use Rattle.bg_inference.specs.declared.outcome.Outcome as inference
use Rattle.bg_inference.specs.Outcomes.{IsTrueOutcome}
use Rattle.bg_inference.specs.Told.{outcome_of}
use Rattle.bg_keep.specs.Annotated.{annotated}
use Rattle.bg_print.specs.Printed.{printed}
use Rattle.bg_sound.specs.Sound.{IsSound}
use Rattle.bg_sound.specs.Told.{Outcome, status_of}
use Rattle.bg_told.specs.History.{IsHistory}
use Rattle.bg_told.specs.Report.{result_text, bench_text}
use Rattle.bg_tool.specs.declared.asked.Asked.{Asked}
use Rattle.bg_ends.specs.declared.status.Status.{Status}
use Rattle.bg_ends.specs.declared.status.Status.TheVariants as status
use Rattle.bg_ends.specs.Statuses.{number_of, refusal_status, is_report, is_refused}
use Rattle.bg_tool.specs.Reports.{IsTrueText}
use Rattle.bg_ends.specs.Wrote.{MayWrite}
use Rattle.bg_cli.specs.Cli.{IsTaken, files_in, cert_in, nodes_in, most_rows_in, guess_in, history_in, job_in, seed_in, size_in}
use Rattle.bg_cli.specs.declared.job.Job.{Job}
use Rattle.bg_cli.specs.declared.job.Job.TheVariants as job
use Rattle.bg_confirm.specs.Accepted.{IsAccepted}
use Rattle.bg_certify.specs.Written.{IsCertText}
use Rattle.bg_gen.specs.Generated.{generated}
use Rattle.bg_recheck.specs.Rechecks.{Rechecks}
use Rattle.bg_tree.specs.declared.outcome.Budget.{Budget}

-- what a search may use up, as the words say
abbrev pub budget_in : List (List ℕ) → Budget
budget_in words = record { nodes = nodes_in words; rows = most_rows_in words }

-- whether guesses are asked for; a certificate is of the program as it is, and so is what is told of a program that is made
abbrev pub guess_for : Job → Bool → Bool
guess_for job.Certify guess = false
guess_for job.Check guess = false
guess_for job.Bench guess = false
guess_for _ guess = guess

-- whether certificates and causes of places are kept: where the certificate is asked for
abbrev pub keeps_for : Job → Bool
keeps_for job.Certify = true
keeps_for _ = false

-- what is asked, as the words say
abbrev pub asked_in : List (List ℕ) → Asked
asked_in words =
    record {
      budget = budget_in words;
      guess = guess_for (job_in words) (guess_in words);
      history = history_in words;
      job = job_in words;
      seed = seed_in words;
      size = size_in words;
    }

-- a number of workers that may check
abbrev pub AreSome : ℕ → Type 0
AreSome workers = (0 < workers) × (workers ≤ 16)

-- what is told of a program is accounted for: it is told of an outcome that is true of the program. There the axioms have a right verdict
-- of their own: values of the constants and tables of the functions without a body that meet them, a certificate that none do, or a
-- cause within the budget; each dropped candidate has an entry in an ordered history, with a run that fails under the entry's snapshot or
-- a cause within the budget; each place of a retained one a certificate under what is retained; and each ordinary place a right verdict
-- under it: a certificate where it says proved, a counterexample where it says refuted, and where it says unknown a cause within the
-- budget, whose words it has. An outcome that keeps no certificates and no causes is true where there are such
pub record IsAccounted (keeps : Bool) (budget : Budget) (p : Program) (o : Outcome) : Type 0 where
  pub inferred : inference.Outcome
  pub right : IsTrueOutcome keeps budget p inferred
  pub told : o ≡ outcome_of why_of (meaning_of p) inferred

-- the outcome is true of the program that the bytes spell, with its guesses where these are asked for, and what is told of it is true too;
-- certificates and causes are kept where the certificate is asked for
pub record IsOutcomeOn (asked : Asked) (bytes : List ℕ) (o : inference.Outcome) : Type 0 where
  pub program : Program
  pub spelled : IsProgramOf asked.guess bytes program
  pub right : IsTrueOutcome (keeps_for asked.job) asked.budget program o
  pub sound : IsSound program (outcome_of why_of (meaning_of program) o)

-- the report of an outcome, and behind it its history where this is asked for, else nothing
pub record IsTextFor (history : Bool) (p : Program) (o : inference.Outcome) (text : List ℕ) : Type 0 where
  pub behind : List ℕ
  pub is : text ≡ result_text p (outcome_of why_of (meaning_of p) o) ++ behind
  pub none : history ≡ false → behind ≡ []
  pub all : history ≡ true → IsHistory why_of p o behind

-- the text is true of the program that the bytes spell, with its guesses where these are asked for; what its report tells is accounted for, and what stands behind the report, where
-- it is asked for, is the history of the same outcome
pub record IsReport (asked : Asked) (bytes : List ℕ) (ends : Status) (text : List ℕ) : Type 0 where
  pub sound : IsTrueText (IsProgramOf asked.guess) asked.history bytes ends text
  pub accounted : IsAccounted (keeps_for asked.job) asked.budget sound.report.program sound.report.outcome
  pub all : asked.history ≡ true → IsHistory why_of sound.report.program accounted.inferred sound.behind

-- the text is, in the printed layout, the program that the bytes spell with its retained annotations, those of its guesses too where
-- these are asked for. What is retained is that of an outcome that is true of the program, and what is told of this one is true of it and
-- has the status
pub record IsAnnotation (asked : Asked) (bytes : List ℕ) (ends : Status) (text : List ℕ) : Type 0 where
  pub decls : List Decl
  pub program : Program
  pub spelled : IsProgramFrom asked.guess bytes decls program
  pub inferred : inference.Outcome
  pub right : IsTrueOutcome (keeps_for asked.job) asked.budget program inferred
  pub sound : IsSound program (outcome_of why_of (meaning_of program) inferred)
  pub is : text ≡ printed (annotated asked.guess inferred.judged.inferred.retained decls)
  pub gives : number_of ends ≡ status_of (outcome_of why_of (meaning_of program) inferred)

-- the text is that of a certificate of the program that the bytes spell, for an outcome that is true of the program; what is told of this
-- one is true of it and has the status. Each certificate is kept, and where the status is 0 the program accepts that of the text
pub record IsCertification (asked : Asked) (bytes : List ℕ) (ends : Status) (text : List ℕ) : Type 0 where
  pub program : Program
  pub spelled : IsProgramOf asked.guess bytes program
  pub inferred : inference.Outcome
  pub right : IsTrueOutcome true asked.budget program inferred
  pub sound : IsSound program (outcome_of why_of (meaning_of program) inferred)
  pub told : IsCertText program inferred text
  pub gives : number_of ends ≡ status_of (outcome_of why_of (meaning_of program) inferred)
  pub accepted : ends ≡ status.Verified → IsAccepted program told.cert

-- the text is the lines of the seed and the size, of the retained set and of the counts that a report has of an outcome that is true of
-- the program that the bytes spell; what is told of this one is true of it and has the status
pub record IsBenched (asked : Asked) (bytes : List ℕ) (ends : Status) (text : List ℕ) : Type 0 where
  pub program : Program
  pub spelled : IsProgramOf asked.guess bytes program
  pub inferred : inference.Outcome
  pub right : IsTrueOutcome (keeps_for asked.job) asked.budget program inferred
  pub sound : IsSound program (outcome_of why_of (meaning_of program) inferred)
  pub is : text ≡ bench_text asked.seed asked.size (outcome_of why_of (meaning_of program) inferred)
  pub gives : number_of ends ≡ status_of (outcome_of why_of (meaning_of program) inferred)

-- what is written, by what is asked for
abbrev pub IsAnswerFor : Job → Asked → List ℕ → Status → List ℕ → Type 0
IsAnswerFor job.Annotate asked = IsAnnotation asked
IsAnswerFor job.Certify asked = IsCertification asked
IsAnswerFor job.Bench asked = IsBenched asked
IsAnswerFor _ asked = IsReport asked

-- what is written
abbrev pub IsAnswer : Asked → List ℕ → Status → List ℕ → Type 0
IsAnswer asked = IsAnswerFor asked.job asked

-- an answer was written, whole
pub record Answered (asked : Asked) (bytes : List ℕ) (ends : Status) (before now : Option (List ℕ)) : Type 0 where
  pub text : List ℕ
  pub answer : IsAnswer asked bytes ends text
  pub written : now ≡ joined before text

-- nothing was written, or the first bytes of an answer
pub record AnsweredFront (asked : Asked) (bytes : List ℕ) (before now : Option (List ℕ)) : Type 0 where
  pub ends : Status
  pub text : List ℕ
  pub answer : IsAnswer asked bytes ends text
  pub count : ℕ
  pub written : now ≡ joined before (take count text)

abbrev pub AnsweredSome : Asked → List ℕ → Option (List ℕ) → Option (List ℕ) → Type 0
AnsweredSome asked bytes before now = (now ≡ before) ⊎ AnsweredFront asked bytes before now

-- nothing was written, or the first bytes of a text that the call may write when it ends with an answer
pub record WroteFrontOf (asked : Asked) (contents : Option (List ℕ → List ℕ)) (names : List (List ℕ)) (before now : Option (List ℕ)) : Type 0 where
  pub ends : Status
  pub text : List ℕ
  pub may : MayWrite (IsAnswer asked) contents names ends text
  pub count : ℕ
  pub written : now ≡ joined before (take count text)

abbrev pub WroteSome : Asked → Option (List ℕ → List ℕ) → List (List ℕ) → Option (List ℕ) → Option (List ℕ) → Type 0
WroteSome asked contents names before now = (now ≡ before) ⊎ WroteFrontOf asked contents names before now

-- where no fault was counted, a text that is told: one that spells a program gives a report or an annotated program, one that is refused the status of
-- the reason, and one that spells no program a status of refusals; unless memory ran out
pub record Judges (guess : Bool) (contents : Option (List ℕ → List ℕ)) (names : List (List ℕ)) (ends : Status) : Type 0 where
  pub program : (held : List ℕ → List ℕ) (p : Program) → contents ≡ Some held → IsProgramOf guess (joined_text held names) p → IsTrue (is_report ends) ⊎ (ends ≡ status.Memory)
  pub refused : (held : List ℕ → List ℕ) (r : Refusal) → contents ≡ Some held → IsRefusedBy guess (joined_text held names) r → (ends ≡ refusal_status r) ⊎ (ends ≡ status.Memory)
  pub none : (held : List ℕ → List ℕ) → contents ≡ Some held → ((p : Program) → IsProgramOf guess (joined_text held names) p → ⊥) → IsTrue (is_refused ends) ⊎ (ends ≡ status.Memory)

-- the same of a text that is known
pub record JudgesText (guess : Bool) (bytes : List ℕ) (ends : Status) : Type 0 where
  pub program : (p : Program) → IsProgramOf guess bytes p → IsTrue (is_report ends) ⊎ (ends ≡ status.Memory)
  pub refused : (r : Refusal) → IsRefusedBy guess bytes r → (ends ≡ refusal_status r) ⊎ (ends ≡ status.Memory)
  pub none : ((p : Program) → IsProgramOf guess bytes p → ⊥) → IsTrue (is_refused ends) ⊎ (ends ≡ status.Memory)

-- whether the files are read as a program that is judged
abbrev pub judges : Job → Bool
judges job.Verify = true
judges job.Annotate = true
judges job.Certify = true
judges _ = false

-- whether a certificate is checked
abbrev pub rechecks : Job → Bool
rechecks job.Check = true
rechecks _ = false

-- whether a program that is made is judged
abbrev pub benches : Job → Bool
benches job.Bench = true
benches _ = false

-- the files that are read, in order
abbrev pub names_for : Job → List (List ℕ) → List ℕ → List (List ℕ)
names_for job.Check files cert = files ++ (cert ∷ [])
names_for _ files cert = files

abbrev pub names_in : List (List ℕ) → List (List ℕ)
names_in words = names_for (job_in words) (files_in words) (cert_in words)

-- guesses aren't asked for where the certificate is
abbrev pub IsPlain : Asked → Type 0
IsPlain asked = asked.job ≡ job.Certify → asked.guess ≡ false

-- the same of the files that taken words name; a certificate is answered; where they ask for a program that is made, it is written,
-- unless memory ran out; where they ask for what is told of one, it is judged; words that aren't taken are refused
pub record Completes (contents : Option (List ℕ → List ℕ)) (words : List (List ℕ)) (ends : Status) : Type 0 where
  pub taken : judges (job_in words) ≡ true → IsTaken words → Judges (asked_in words).guess contents (files_in words) ends
  pub checked : job_in words ≡ job.Check → IsTaken words → Rechecks contents (files_in words) (cert_in words ∷ []) ends
  pub made : job_in words ≡ job.Generate → IsTaken words → (ends ≡ status.Verified) ⊎ (ends ≡ status.Memory)
  pub benched : job_in words ≡ job.Bench → IsTaken words → JudgesText (asked_in words).guess (generated (seed_in words) (size_in words)) ends
  pub usage : (IsTaken words → ⊥) → (ends ≡ status.Usage) ⊎ (ends ≡ status.Memory)
