-- What is asked of a program that is made, and how it ends.
use Rattle.std.proofs.Common.{◌≡◌, ◌∙◌, ℕ, Bool, List, Option, true, refl, sym}
use Rattle.bg_cli.specs.Cli.{IsTaken, nodes_in, most_rows_in, guess_in, history_in, job_in, seed_in, size_in}
use Rattle.bg_cli.specs.declared.job.Job.{Job}
use Rattle.bg_cli.specs.declared.job.Job.TheVariants as job
use Rattle.bg_gen.specs.Generated.{generated}
use Rattle.bg_ends.specs.declared.status.Status.{Status}
use Rattle.bg_tool.specs.declared.asked.Asked.{Asked}
use Rattle.bg_tool.specs.Answers.{guess_for, asked_in, judges, JudgesText, Completes}

-- what is asked is what the words say
pub asked_is : (words : List (List ℕ)) (asked : Asked) (j : Job) (nodes rows seed size : ℕ) (guess history : Bool)
    → asked ≡ record { budget = record { nodes = nodes; rows = rows }; guess = guess_for j guess; history = history; job = j; seed = seed; size = size }
    → nodes ≡ nodes_in words → rows ≡ most_rows_in words → guess ≡ guess_in words → history ≡ history_in words → j ≡ job_in words → seed ≡ seed_in words → size ≡ size_in words
    → asked ≡ asked_in words
asked_is words asked j nodes rows seed size guess history is n r g h b s z = rw (is, n, r, g, h, b, s, z) refl

not_judged : (j : Job) → j ≡ job.Bench → judges j ≡ true → ⊥
not_judged job.Verify is h = absurd cc
not_judged job.Annotate is h = absurd cc
not_judged job.Certify is h = absurd cc
not_judged job.Check is h = absurd cc
not_judged job.Generate is h = absurd cc
not_judged job.Bench is h = absurd cc

not_checked : (j : Job) → j ≡ job.Bench → j ≡ job.Check → ⊥
not_checked j is h = let e : job.Bench ≡ job.Check = sym is ∙ h in absurd cc

not_made : (j : Job) → j ≡ job.Bench → j ≡ job.Generate → ⊥
not_made j is h = let e : job.Bench ≡ job.Generate = sym is ∙ h in absurd cc

-- where a program that is made is judged, the other cases don't arise
pub bench_completes : (contents : Option (List ℕ → List ℕ)) (words : List (List ℕ)) (ends : Status) → job_in words ≡ job.Bench → IsTaken words → JudgesText (asked_in words).guess (generated (seed_in words) (size_in words)) ends → Completes contents words ends
bench_completes contents words ends is taken judged =
    record {
      taken = λ h _. absurd (not_judged (job_in words) is h);
      checked = λ h _. absurd (not_checked (job_in words) is h);
      made = λ h _. absurd (not_made (job_in words) is h);
      benched = λ _ _. judged;
      usage = λ not_taken. absurd (not_taken taken);
    }
