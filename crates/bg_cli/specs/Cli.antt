-- The command line: which words are taken, and what they ask.
use Rattle.std.specs.Prelude.{◌≡◌, ◌==◌, ◌&&◌, nat_le, Bool, ℕ, pos, true, false, if◌then◌else◌, List, [], ◌∷◌, map, codes, Option, Some, None, option_map, unwrap_or, String, string_bytes}
use Rattle.std.specs.Str.{bytes_eq}
use Rattle.std.specs.Str.Parse.{digits_value, without_leading_plus}
use Rattle.std.specs.declared.alloc.Global.{Global}
use Rattle.clap.specs.ValueTests.{accepts}
use Rattle.clap.specs.Faults.{fault_of}
use Rattle.clap.specs.Walk.{Row, Rule, Text, all_of, first_of, one_of}
use Rattle.clap.specs.Simple.{App, new_app, new_rule, with_rule, with_subcommand, subcommand_of, subcommand_rows_of}
use Rattle.clap.specs.declared.parser.matches.ArgMatches.{ArgMatches}
use Rattle.clap.specs.Lexer.{usize_max}
use Rattle.clap.specs.declared.builder.action.ArgAction.TheVariants.{Set, SetTrue, Append}
use Rattle.clap.specs.declared.builder.value_parser.ValueParser.TheVariants as parser
use Rattle.bg_cli.specs.declared.job.Job.{Job}
use Rattle.bg_cli.specs.declared.job.Job.TheVariants as job

-- an option with a number from 1 to 1,000,000; 20,000 where it isn't given
abbrev pub budget : Text → Rule
budget name =
    record (new_rule name) {
      long = Some name;
      parser = Some (parser.Signed (pos 1) (pos 1000000));
      action = Some Set;
      defaults = codes "20000" ∷ [];
    }

-- `--nodes N`
abbrev pub nodes : Rule
nodes = budget (codes "nodes")

-- `--rows N`
abbrev pub most_rows : Rule
most_rows = budget (codes "rows")

-- `--workers N`, from 1 to 16; 4 where it isn't given
abbrev pub workers : Rule
workers =
    record (new_rule (codes "workers")) {
      long = Some (codes "workers");
      parser = Some (parser.Signed (pos 1) (pos 16));
      action = Some Set;
      defaults = codes "4" ∷ [];
    }

-- a flag
abbrev pub flag : Text → Rule
flag name = record (new_rule name) { long = Some name; action = Some SetTrue }

-- `--guess`
abbrev pub guess : Rule
guess = flag (codes "guess")

-- `--history`
abbrev pub history : Rule
history = flag (codes "history")

-- one file or more
abbrev pub files : Rule
files =
    record (new_rule (codes "FILE")) {
      required = true;
      range = Some (record { start_inclusive = 1; end_inclusive = usize_max });
      action = Some Append;
    }

abbrev pub verify : App
verify = with_rule (with_rule (with_rule (with_rule (with_rule (with_rule (new_app (codes "verify")) workers) nodes) most_rows) guess) history) files

-- the same without `--history`
abbrev pub annotate : App
annotate = with_rule (with_rule (with_rule (with_rule (with_rule (new_app (codes "annotate")) workers) nodes) most_rows) guess) files

-- the same without `--guess`
abbrev pub certify : App
certify = with_rule (with_rule (with_rule (with_rule (new_app (codes "certify")) workers) nodes) most_rows) files

-- `--cert FILE`, which has to be given
abbrev pub cert : Rule
cert = record (new_rule (codes "cert")) { long = Some (codes "cert"); required = true; action = Some Set }

abbrev pub check : App
check = with_rule (with_rule (new_app (codes "check")) cert) files

-- a number that fits in 32 bits
abbrev pub seed : Rule
seed =
    record (new_rule (codes "SEED")) {
      required = true;
      parser = Some (parser.Signed (pos 0) (pos 4294967295));
      action = Some Set;
    }

-- a number from 1 to 1,000
abbrev pub size : Rule
size =
    record (new_rule (codes "SIZE")) {
      required = true;
      parser = Some (parser.Signed (pos 1) (pos 1000));
      action = Some Set;
    }

-- a command that takes a seed and a size
abbrev pub makes : Text → App
makes name = with_rule (with_rule (new_app name) seed) size

abbrev pub generate : App
generate = makes (codes "generate")

abbrev pub bench : App
bench = makes (codes "bench")

abbrev pub required : App → App
required a = record a { top = record a.top { subcommand_required = true } }

-- the commands: `bg verify [--workers N] [--nodes N] [--rows N] [--guess] [--history] FILE..`, `bg annotate` without `--history`,
-- `bg certify` without `--guess` too, `bg check --cert FILE FILE..`, `bg generate SEED SIZE` and `bg bench SEED SIZE`
unfoldable pub cli : App
cli =
    with_subcommand (with_subcommand (with_subcommand (with_subcommand (with_subcommand (with_subcommand (required (new_app (codes "bg"))) verify.top) annotate.top) certify.top) check.top) generate.top) bench.top

-- the bytes of the words
abbrev pub texts_of : List (String Global) → List Text
texts_of = map string_bytes

-- the words are taken: a parse fails only for want of memory
abbrev pub IsTaken : List Text → Type 0
IsTaken words = fault_of cli words ≡ []

-- what a parse finds for the command
abbrev pub rows_in : List Text → List Row
rows_in words = unwrap_or (option_map (λ p. p.1) (subcommand_of cli words)) []

-- what a parse found for the command
abbrev pub rows_for : ArgMatches → List Row
rows_for m = unwrap_or (option_map (λ p. p.1) (subcommand_rows_of m)) []

-- the files, in order
abbrev pub files_of : List Row → List Text
files_of rows = unwrap_or (all_of (codes "FILE") rows) []

-- the decimal number, where it fits in 32 bits
abbrev pub number_or : ℕ → Option Text → ℕ
number_or other None = other
number_or other (Some text) =
    if accepts false (parser.Unsigned 0 4294967295) text then digits_value 10 (without_leading_plus text) else other

-- the most inner nodes of a tree
abbrev pub nodes_of : List Row → ℕ
nodes_of rows = number_or 20000 (one_of (codes "nodes") rows)

-- the most rows of an elimination
abbrev pub most_rows_of : List Row → ℕ
most_rows_of rows = number_or 20000 (one_of (codes "rows") rows)

-- a number from 1 to 16 is as it is, another one as 4
abbrev pub as_workers : ℕ → ℕ
as_workers n = if nat_le 1 n && nat_le n 16 then n else 4

-- how many workers check places of candidates; only a number from 1 to 16 is taken
abbrev pub workers_of : List Row → ℕ
workers_of rows = as_workers (number_or 4 (one_of (codes "workers") rows))

abbrev pub is_same : Text → Text → Bool
is_same [] [] = true
is_same [] (b ∷ bs) = false
is_same (a ∷ as') [] = false
is_same (a ∷ as') (b ∷ bs) = (a == b) && is_same as' bs

-- whether the value of a flag is `true`
abbrev pub is_set : Option Text → Bool
is_set None = false
is_set (Some text) = is_same text (codes "true")

-- whether a flag is given
abbrev pub flag_of : Text → List Row → Bool
flag_of name rows = is_set (one_of name rows)

-- whether guesses are asked for
abbrev pub guess_of : List Row → Bool
guess_of rows = flag_of (codes "guess") rows

-- whether the history is asked for
abbrev pub history_of : List Row → Bool
history_of rows = flag_of (codes "history") rows

-- the job of the command of this name
abbrev pub job_named : Text → Job
job_named name =
    if bytes_eq name (codes "annotate") then job.Annotate
    else (if bytes_eq name (codes "certify") then job.Certify
    else (if bytes_eq name (codes "check") then job.Check
    else (if bytes_eq name (codes "generate") then job.Generate
    else (if bytes_eq name (codes "bench") then job.Bench
    else job.Verify))))

abbrev pub job_of : Option Text → Job
job_of None = job.Verify
job_of (Some name) = job_named name

-- what is asked, by the name of the command; a report where there is none
abbrev pub job_in : List Text → Job
job_in words = job_of (option_map (λ p. p.0) (subcommand_of cli words))

-- the same of what a parse found
abbrev pub job_for : ArgMatches → Job
job_for m = job_of (option_map (λ p. p.0) (subcommand_rows_of m))

-- the file of the certificate that is checked; the empty text where none is given
abbrev pub cert_of : List Row → Text
cert_of rows = unwrap_or (first_of (codes "cert") rows) []

-- the seed of the program that is made
abbrev pub seed_of : List Row → ℕ
seed_of rows = number_or 0 (one_of (codes "SEED") rows)

-- its size
abbrev pub size_of : List Row → ℕ
size_of rows = number_or 0 (one_of (codes "SIZE") rows)

abbrev pub seed_in : List Text → ℕ
seed_in words = seed_of (rows_in words)

abbrev pub size_in : List Text → ℕ
size_in words = size_of (rows_in words)

abbrev pub cert_in : List Text → Text
cert_in words = cert_of (rows_in words)

abbrev pub files_in : List Text → List Text
files_in words = files_of (rows_in words)

abbrev pub nodes_in : List Text → ℕ
nodes_in words = nodes_of (rows_in words)

abbrev pub most_rows_in : List Text → ℕ
most_rows_in words = most_rows_of (rows_in words)

abbrev pub workers_in : List Text → ℕ
workers_in words = workers_of (rows_in words)

abbrev pub guess_in : List Text → Bool
guess_in words = guess_of (rows_in words)

abbrev pub history_in : List Text → Bool
history_in words = history_of (rows_in words)

-- a word that isn't empty and doesn't begin with a dash
abbrev pub Plain : Text → Type 0
Plain [] = ⊥
Plain (b ∷ bs) = (b == 45) ≡ false

-- such words
abbrev pub AllPlain : List Text → Type 0
AllPlain [] = Unit {0}
AllPlain (w ∷ ws) = Plain w × AllPlain ws

-- a number from 1 to the most, without a sign
pub record IsNumberTo (most : ℕ) (n : Text) : Type 0 where
  pub is_plain : Plain n
  pub passes : accepts false (parser.Signed (pos 1) (pos most)) n ≡ true

-- one that `--nodes` and `--rows` take
abbrev pub IsBudget : Text → Type 0
IsBudget = IsNumberTo 1000000

-- one that `--workers` takes
abbrev pub IsWorkers : Text → Type 0
IsWorkers = IsNumberTo 16

-- one that is a seed
pub record IsSeed (n : Text) : Type 0 where
  pub is_plain : Plain n
  pub passes : accepts false (parser.Signed (pos 0) (pos 4294967295)) n ≡ true

-- one that is a size
abbrev pub IsSize : Text → Type 0
IsSize = IsNumberTo 1000
