-- Words that begin with a command's name are read by that command.
use Rattle.std.proofs.Common.{◌≡◌, sym, ap, ap₂, refl, ◌∙◌, Bool, false, List, [], ◌∷◌, ◌++◌, Option, Some, is_some, unwrap_or, option_map, codes, fold, append_assoc, append-nil}
use Rattle.clap.specs.Walk.{Held, Names, Row, Rule, Text, Walk, finished, nothing_held, rows_after, settled, walk, walk_from, walked}
use Rattle.clap.specs.Simple.{App, Shape, built, built_leaf, entered, names_of}
use Rattle.clap.specs.Kinds.{Kinds, or_else}
use Rattle.clap.specs.Faults.{check_fault, defaults_fault, entered_fault, level_fault, settle_fault, walk_fault}
use Rattle.clap.proofs.FaultLemmas.{stopped_fault}
use Rattle.clap.proofs.OnLiterals.{clap_on_literals}
use Rattle.bg_cli.specs.Cli.{cli, verify, annotate, certify, check, generate, bench, IsTaken, rows_in, job_named, job_of, job_in}
use Rattle.bg_cli.specs.declared.job.Job.{Job}
use Rattle.bg_cli.specs.declared.job.Job.TheVariants as job

-- the command's name
abbrev pub name_of : Job → Text
name_of job.Verify = codes "verify"
name_of job.Annotate = codes "annotate"
name_of job.Certify = codes "certify"
name_of job.Check = codes "check"
name_of job.Generate = codes "generate"
name_of job.Bench = codes "bench"

abbrev app_at : Job → App
app_at job.Verify = verify
app_at job.Annotate = annotate
app_at job.Certify = certify
app_at job.Check = check
app_at job.Generate = generate
app_at job.Bench = bench

-- the command as it is built
abbrev pub leaf : Job → Shape
leaf j = built_leaf (app_at j).top

abbrev pub rules : Job → List Rule
rules j = (leaf j).rules

abbrev command : App
command = built cli

-- the walk over the words stops at the command's name, with the words behind it
abbrev stopped_at : Text → List Text → Walk
stopped_at name ws = record (walk_from nothing_held) { stopped = Some (name, ws) }

stop_more : (c : List Rule) (names : Names) (name : Text) (xs ws : List Text) → fold (walked c names) (stopped_at name xs) ws ≡ stopped_at name (xs ++ ws)
unfolding walked
stop_more c names name xs [] = ap (stopped_at name) (sym (append-nil xs))
stop_more c names name xs (w ∷ ws) = stop_more c names name (xs ++ w ∷ []) ws ∙ ap (stopped_at name) (append_assoc xs (w ∷ []) ws)

top_walk : (j : Job) (ws : List Text) → walk command.top.rules (names_of command) nothing_held (name_of j ∷ ws) ≡ stopped_at (name_of j) ws
unfolding clap_on_literals cli
top_walk job.Verify ws = stop_more command.top.rules (names_of command) (codes "verify") [] ws
top_walk job.Annotate ws = stop_more command.top.rules (names_of command) (codes "annotate") [] ws
top_walk job.Certify ws = stop_more command.top.rules (names_of command) (codes "certify") [] ws
top_walk job.Check ws = stop_more command.top.rules (names_of command) (codes "check") [] ws
top_walk job.Generate ws = stop_more command.top.rules (names_of command) (codes "generate") [] ws
top_walk job.Bench ws = stop_more command.top.rules (names_of command) (codes "bench") [] ws

top_fine : (j : Job) (ws : List Text) → walk_fault command.top (names_of command) (walk_from nothing_held) (name_of j ∷ ws) ≡ []
unfolding clap_on_literals cli
top_fine job.Verify ws = stopped_fault command.top (names_of command) (walk_from nothing_held) (codes "verify", []) ws
top_fine job.Annotate ws = stopped_fault command.top (names_of command) (walk_from nothing_held) (codes "annotate", []) ws
top_fine job.Certify ws = stopped_fault command.top (names_of command) (walk_from nothing_held) (codes "certify", []) ws
top_fine job.Check ws = stopped_fault command.top (names_of command) (walk_from nothing_held) (codes "check", []) ws
top_fine job.Generate ws = stopped_fault command.top (names_of command) (walk_from nothing_held) (codes "generate", []) ws
top_fine job.Bench ws = stopped_fault command.top (names_of command) (walk_from nothing_held) (codes "bench", []) ws

-- the command of the name is entered
found : (j : Job) (ws : List Text) → entered command (Some (name_of j, ws)) ≡ Some (name_of j, rows_after (rules j) [] ws)
unfolding cli
found job.Verify ws = refl
found job.Annotate ws = refl
found job.Certify ws = refl
found job.Check ws = refl
found job.Generate ws = refl
found job.Bench ws = refl

found_fault : (j : Job) (ws : List Text) → entered_fault command (Some (name_of j, ws)) ≡ level_fault (leaf j) [] nothing_held ws false []
unfolding cli
found_fault job.Verify ws = refl
found_fault job.Annotate ws = refl
found_fault job.Certify ws = refl
found_fault job.Check ws = refl
found_fault job.Generate ws = refl
found_fault job.Bench ws = refl

abbrev whole : Kinds → Kinds → Held → Bool → Kinds
whole first below h has =
    or_else first
    (or_else below (or_else (settle_fault command.top.rules command.top.args_override_self h)
    (or_else (defaults_fault (settled command.top.rules h).rows command.top.rules) (check_fault command.top (finished command.top.rules h) has))))

-- words that the command takes are taken
pub taken_by : (j : Job) (own : Text) (ws : List Text) → level_fault (leaf j) [] nothing_held ws false [] ≡ [] → IsTaken (own ∷ name_of j ∷ ws)
unfolding defaults_fault cli
taken_by j own ws h =
    ap₂ (λ (k : Kinds) (w : Walk). whole k (entered_fault command w.stopped) w.held (is_some (entered command w.stopped))) (top_fine j ws) (top_walk j ws)
    ∙ ap₂ (λ (k : Kinds) (b : Bool). whole [] k nothing_held b) (found_fault j ws ∙ h) (ap (λ o. is_some o) (found j ws))

entered_is : (j : Job) (ws : List Text) → entered command (walk command.top.rules (names_of command) nothing_held (name_of j ∷ ws)).stopped ≡ Some (name_of j, rows_after (rules j) [] ws)
entered_is j ws = ap (λ (w : Walk). entered command w.stopped) (top_walk j ws) ∙ found j ws

-- what is found is what the command finds
pub rows_by : (j : Job) (own : Text) (ws : List Text) → rows_in (own ∷ name_of j ∷ ws) ≡ rows_after (rules j) [] ws
unfolding cli
rows_by j own ws = ap (λ (o : Option (Text × List Row)). unwrap_or (option_map (λ p. p.1) o) []) (entered_is j ws)

named : (j : Job) → job_named (name_of j) ≡ j
named job.Verify = refl
named job.Annotate = refl
named job.Certify = refl
named job.Check = refl
named job.Generate = refl
named job.Bench = refl

-- the job is the command's
pub job_by : (j : Job) (own : Text) (ws : List Text) → job_in (own ∷ name_of j ∷ ws) ≡ j
unfolding cli
job_by j own ws = ap (λ (o : Option (Text × List Row)). job_of (option_map (λ p. p.0) o)) (entered_is j ws) ∙ named j
