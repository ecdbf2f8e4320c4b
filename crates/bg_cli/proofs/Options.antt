-- An option with its value, and plain words behind it.
use Rattle.std.proofs.Common.{◌≡◌, ◌≤◌, ap, ap₂, refl, ◌∙◌, false, List, [], ◌∷◌, length, Some, None, codes, fold, arith}
use Rattle.std.specs.Str.Parse.{digits_value, without_leading_plus}
use Rattle.clap.specs.Walk.{Text, Row, Rule, Walk, walked, walk_from, walk, nothing_held, finished, idle, option, used}
use Rattle.clap.specs.Simple.{filled}
use Rattle.clap.specs.Lexer.{usize_max}
use Rattle.clap.specs.Kinds.{or_else}
use Rattle.clap.specs.Faults.{turn_fault, walk_fault, defaults_fault, level_fault}
use Rattle.clap.proofs.OnLiterals.{clap_on_literals}
use Rattle.bg_cli.specs.Cli.{workers, nodes, cert, IsTaken, Plain, AllPlain, IsBudget, IsWorkers, rows_in, files_in, cert_in, workers_in, nodes_in, most_rows_in, files_of, cert_of, workers_of, as_workers, nodes_of, most_rows_of, guess_of, history_of, guess_in, history_in, number_or}
use Rattle.bg_cli.specs.declared.job.Job.{Job}
use Rattle.bg_cli.specs.declared.job.Job.TheVariants.{Verify, Check}
use Rattle.bg_cli.proofs.Enters.{name_of, leaf, rules, taken_by, rows_by}
use Rattle.bg_cli.proofs.Files.{TakesFiles, reading, more, words_fine, level_fine}
use Rattle.bg_cli.proofs.Plain.{verify_takes}
use Rattle.bg_cli.proofs.Written.{as_plain, within, read_number, read_budget, some_workers}

-- the option that is given
pub data Asked : Type 0 where
  Nodes : Asked
  Workers : Asked
  Cert : Asked

abbrev id_of : Asked → Text
id_of Nodes = codes "nodes"
id_of Workers = codes "workers"
id_of Cert = codes "cert"

abbrev pub word_of : Asked → Text
word_of Nodes = codes "--nodes"
word_of Workers = codes "--workers"
word_of Cert = codes "--cert"

abbrev rule_in : Asked → Rule
rule_in Nodes = nodes
rule_in Workers = workers
rule_in Cert = cert

-- the command that has it
abbrev pub job_for : Asked → Job
job_for Nodes = Verify
job_for Workers = Verify
job_for Cert = Check

-- the values that it takes
abbrev pub Fits : Asked → Text → Type 0
Fits Nodes n = IsBudget n
Fits Workers n = IsWorkers n
Fits Cert n = Plain n

fits_plain : (a : Asked) (n : Text) → Fits a n → Plain n
fits_plain Nodes n k = k.is_plain
fits_plain Workers n k = k.is_plain
fits_plain Cert n k = k

takes : (a : Asked) → TakesFiles (rules (job_for a))
takes Nodes = verify_takes
takes Workers = verify_takes
takes Cert = record { here = refl; named = refl }

-- the value was read, and no file yet
abbrev pub valued : Asked → Text → Walk
valued a n =
    record {
      held = record { rows = []; pending = Some (id_of a, n ∷ []); skip = 0 };
      waiting = idle;
      position = 1;
      is_trailing = false;
      stopped = None;
    }

abbrev asked : Asked → Walk
asked a = record (walk_from nothing_held) { held = record nothing_held { pending = Some (id_of a, []) }; waiting = option (id_of a) }

pub option_walk : (a : Asked) → walked (rules (job_for a)) [] (walk_from nothing_held) (word_of a) ≡ asked a
unfolding clap_on_literals
option_walk Nodes = refl
option_walk Workers = refl
option_walk Cert = refl

pub option_fine : (a : Asked) → turn_fault (leaf (job_for a)) [] (walk_from nothing_held) (word_of a) ≡ []
unfolding clap_on_literals
option_fine Nodes = refl
option_fine Workers = refl
option_fine Cert = refl

pub value_walk : (a : Asked) (n : Text) → Plain n → walked (rules (job_for a)) [] (asked a) n ≡ valued a n
unfolding clap_on_literals
value_walk a [] h = absurd h
value_walk Nodes (b ∷ bs) h = simp h refl
value_walk Workers (b ∷ bs) h = simp h refl
value_walk Cert (b ∷ bs) h = simp h refl

pub value_fine : (a : Asked) (n : Text) → Plain n → turn_fault (leaf (job_for a)) [] (asked a) n ≡ []
unfolding clap_on_literals
value_fine a [] h = absurd h
value_fine Nodes (b ∷ bs) h = simp h refl
value_fine Workers (b ∷ bs) h = simp h refl
value_fine Cert (b ∷ bs) h = simp h refl

abbrev pub value_row : Asked → Text → List Row
value_row a n = used (filled (rule_in a)) (n ∷ []) []

file_walk : (a : Asked) (n f : Text) → Plain f → walked (rules (job_for a)) [] (valued a n) f ≡ reading (value_row a n) (f ∷ [])
unfolding clap_on_literals
file_walk a n [] h = absurd h
file_walk Nodes n (b ∷ bs) h = simp h refl
file_walk Workers n (b ∷ bs) h = simp h refl
file_walk Cert n (b ∷ bs) h = simp h refl

file_fine : (a : Asked) (n f : Text) → Fits a n → Plain f → turn_fault (leaf (job_for a)) [] (valued a n) f ≡ []
unfolding clap_on_literals
file_fine a n [] k h = absurd h
file_fine Nodes n (b ∷ bs) k h = simp (h, k.passes) refl
file_fine Workers n (b ∷ bs) k h = simp (h, k.passes) refl
file_fine Cert n (b ∷ bs) k h = simp h refl

abbrev pub asks : Asked → Text → List Text → List Text
asks a n ws = word_of a ∷ n ∷ ws

abbrev steps : Asked → Walk → List Text → Walk
steps a = fold (walked (rules (job_for a)) [])

files_walk : (a : Asked) (n f : Text) (fs : List Text) → Fits a n → AllPlain (f ∷ fs) → walk (rules (job_for a)) [] nothing_held (asks a n (f ∷ fs)) ≡ reading (value_row a n) (f ∷ fs)
files_walk a n f fs k h =
    ap (λ s. steps a s (n ∷ f ∷ fs)) (option_walk a) ∙ ap (λ s. steps a s (f ∷ fs)) (value_walk a n (fits_plain a n k))
    ∙ ap (λ s. steps a s fs) (file_walk a n f h.0) ∙ more (rules (job_for a)) (takes a) (value_row a n) (f ∷ []) fs h.1

files_fine : (a : Asked) (n f : Text) (fs : List Text) → Fits a n → AllPlain (f ∷ fs) → walk_fault (leaf (job_for a)) [] (walk_from nothing_held) (asks a n (f ∷ fs)) ≡ []
unfolding walk_fault
files_fine a n f fs k h =
    ap₂ or_else (option_fine a) (ap (λ s. walk_fault (leaf (job_for a)) [] s (n ∷ f ∷ fs)) (option_walk a)
    ∙ ap₂ or_else (value_fine a n (fits_plain a n k)) (ap (λ s. walk_fault (leaf (job_for a)) [] s (f ∷ fs)) (value_walk a n (fits_plain a n k))
    ∙ ap₂ or_else (file_fine a n f k h.0) (ap (λ s. walk_fault (leaf (job_for a)) [] s fs) (file_walk a n f h.0) ∙ words_fine (leaf (job_for a)) (takes a) (value_row a n) (f ∷ []) fs h.1)))

fine : (a : Asked) (n f : Text) (fs : List Text) → Fits a n → AllPlain (f ∷ fs) → length (f ∷ fs) ≤ usize_max → level_fault (leaf (job_for a)) [] nothing_held (asks a n (f ∷ fs)) false [] ≡ []
unfolding defaults_fault
fine Nodes n f fs k h m = level_fine (leaf Verify) verify_takes (value_row Nodes n) (asks Nodes n (f ∷ fs)) f fs (files_fine Nodes n f fs k h) (files_walk Nodes n f fs k h) m refl
fine Workers n f fs k h m = level_fine (leaf Verify) verify_takes (value_row Workers n) (asks Workers n (f ∷ fs)) f fs (files_fine Workers n f fs k h) (files_walk Workers n f fs k h) m refl
fine Cert n f fs k h m = level_fine (leaf Check) (takes Cert) (value_row Cert n) (asks Cert n (f ∷ fs)) f fs (files_fine Cert n f fs k h) (files_walk Cert n f fs k h) m refl

pub option_taken : (a : Asked) (own n f : Text) (fs : List Text) → Fits a n → AllPlain (f ∷ fs) → length (f ∷ fs) ≤ usize_max → IsTaken (own ∷ name_of (job_for a) ∷ asks a n (f ∷ fs))
option_taken a own n f fs k h m = taken_by (job_for a) own (asks a n (f ∷ fs)) (fine a n f fs k h m)

option_rows : (a : Asked) (own n f : Text) (fs : List Text) → Fits a n → AllPlain (f ∷ fs) → rows_in (own ∷ name_of (job_for a) ∷ asks a n (f ∷ fs)) ≡ finished (rules (job_for a)) (reading (value_row a n) (f ∷ fs)).held
option_rows a own n f fs k h = rows_by (job_for a) own (asks a n (f ∷ fs)) ∙ ap (λ (w : Walk). finished (rules (job_for a)) w.held) (files_walk a n f fs k h)

option_files_of : (a : Asked) (n f : Text) (fs : List Text) → files_of (finished (rules (job_for a)) (reading (value_row a n) (f ∷ fs)).held) ≡ f ∷ fs
option_files_of Nodes n f fs = refl
option_files_of Workers n f fs = refl
option_files_of Cert n f fs = refl

pub option_files : (a : Asked) (own n f : Text) (fs : List Text) → Fits a n → AllPlain (f ∷ fs) → files_in (own ∷ name_of (job_for a) ∷ asks a n (f ∷ fs)) ≡ f ∷ fs
option_files a own n f fs k h = ap files_of (option_rows a own n f fs k h) ∙ option_files_of a n f fs

no_guess : (a : Asked) (n f : Text) (fs : List Text) → guess_of (finished (rules (job_for a)) (reading (value_row a n) (f ∷ fs)).held) ≡ false
no_guess Nodes n f fs = refl
no_guess Workers n f fs = refl
no_guess Cert n f fs = refl

no_history : (a : Asked) (n f : Text) (fs : List Text) → history_of (finished (rules (job_for a)) (reading (value_row a n) (f ∷ fs)).held) ≡ false
no_history Nodes n f fs = refl
no_history Workers n f fs = refl
no_history Cert n f fs = refl

pub option_guess : (a : Asked) (own n f : Text) (fs : List Text) → Fits a n → AllPlain (f ∷ fs) → guess_in (own ∷ name_of (job_for a) ∷ asks a n (f ∷ fs)) ≡ false
option_guess a own n f fs k h = ap guess_of (option_rows a own n f fs k h) ∙ no_guess a n f fs

pub option_history : (a : Asked) (own n f : Text) (fs : List Text) → Fits a n → AllPlain (f ∷ fs) → history_in (own ∷ name_of (job_for a) ∷ asks a n (f ∷ fs)) ≡ false
option_history a own n f fs k h = ap history_of (option_rows a own n f fs k h) ∙ no_history a n f fs

pub cert_file : (own c f : Text) (fs : List Text) → Plain c → AllPlain (f ∷ fs) → cert_in (own ∷ codes "check" ∷ asks Cert c (f ∷ fs)) ≡ c
cert_file own c f fs k h = ap cert_of (option_rows Cert own c f fs k h)

pub nodes_number : (own n f : Text) (fs : List Text) → IsBudget n → AllPlain (f ∷ fs) → nodes_in (own ∷ codes "verify" ∷ asks Nodes n (f ∷ fs)) ≡ digits_value 10 (without_leading_plus n)
nodes_number own n f fs k h = ap nodes_of (option_rows Nodes own n f fs k h) ∙ ap (λ t. number_or 20000 (Some t)) (as_plain n k.is_plain).0 ∙ read_budget n k

pub nodes_rows_number : (own n f : Text) (fs : List Text) → IsBudget n → AllPlain (f ∷ fs) → most_rows_in (own ∷ codes "verify" ∷ asks Nodes n (f ∷ fs)) ≡ 20000
nodes_rows_number own n f fs k h = ap most_rows_of (option_rows Nodes own n f fs k h)

pub nodes_workers : (own n f : Text) (fs : List Text) → IsBudget n → AllPlain (f ∷ fs) → workers_in (own ∷ codes "verify" ∷ asks Nodes n (f ∷ fs)) ≡ 4
nodes_workers own n f fs k h = ap workers_of (option_rows Nodes own n f fs k h)

pub workers_nodes : (own n f : Text) (fs : List Text) → IsWorkers n → AllPlain (f ∷ fs) → nodes_in (own ∷ codes "verify" ∷ asks Workers n (f ∷ fs)) ≡ 20000
workers_nodes own n f fs k h = ap nodes_of (option_rows Workers own n f fs k h)

pub workers_rows_number : (own n f : Text) (fs : List Text) → IsWorkers n → AllPlain (f ∷ fs) → most_rows_in (own ∷ codes "verify" ∷ asks Workers n (f ∷ fs)) ≡ 20000
workers_rows_number own n f fs k h = ap most_rows_of (option_rows Workers own n f fs k h)

pub workers_number : (own n f : Text) (fs : List Text) → IsWorkers n → AllPlain (f ∷ fs) → workers_in (own ∷ codes "verify" ∷ asks Workers n (f ∷ fs)) ≡ digits_value 10 (without_leading_plus n)
workers_number own n f fs k h =
    let w = within 16 n k in
    ap workers_of (option_rows Workers own n f fs k h)
    ∙ (ap (λ t. as_workers (number_or 4 (Some t))) (as_plain n k.is_plain).0
    ∙ (ap as_workers (read_number 4 16 n (omega arith) k)
    ∙ some_workers (digits_value 10 (without_leading_plus n)) w.0 w.1))
