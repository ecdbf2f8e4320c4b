-- `generate` and `bench` read two numbers.
use Rattle.std.proofs.Common.{◌≡◌, ap, ap₂, refl, ◌∙◌, false, List, [], ◌∷◌, Some, None, codes, fold}
use Rattle.std.specs.Str.Parse.{digits_value, without_leading_plus}
use Rattle.clap.specs.Walk.{Row, Rule, Text, Walk, walked, walk_from, walk, nothing_held, settled, finished, idle, used}
use Rattle.clap.specs.Simple.{Shape, built_leaf, filled}
use Rattle.clap.specs.Kinds.{Kinds, or_else}
use Rattle.clap.specs.Faults.{turn_fault, walk_fault, settle_fault, level_fault, defaults_fault, check_fault}
use Rattle.clap.proofs.OnLiterals.{clap_on_literals}
use Rattle.bg_cli.specs.Cli.{makes, seed, IsTaken, Plain, IsSeed, IsSize, rows_in, number_or, seed_of, size_of, seed_in, size_in, nodes_of, most_rows_of, workers_of, guess_of, history_of, nodes_in, most_rows_in, workers_in, guess_in, history_in}
use Rattle.bg_cli.specs.declared.job.Job.TheVariants.{Generate, Bench}
use Rattle.bg_cli.proofs.Enters.{taken_by, rows_by}
use Rattle.bg_cli.proofs.Written.{as_plain, read_size, read_seed}

-- a command of this name that takes a seed and a size, as it is built
abbrev leaf : Text → Shape
leaf name = built_leaf (makes name).top

abbrev rules : List Rule
rules = (leaf []).rules

-- the seed was read
abbrev seeded : Text → Walk
seeded s =
    record {
      held = record { rows = []; pending = Some (codes "SEED", s ∷ []); skip = 0 };
      waiting = idle;
      position = 2;
      is_trailing = false;
      stopped = None;
    }

-- and the size behind it
abbrev sized : Text → Text → Walk
sized s n =
    record {
      held = record { rows = used (filled seed) (s ∷ []) []; pending = Some (codes "SIZE", n ∷ []); skip = 0 };
      waiting = idle;
      position = 3;
      is_trailing = false;
      stopped = None;
    }

seed_walk : (s : Text) → Plain s → walked rules [] (walk_from nothing_held) s ≡ seeded s
unfolding clap_on_literals
seed_walk [] h = absurd h
seed_walk (b ∷ bs) h = simp h refl

seed_fine : (name s : Text) → Plain s → turn_fault (leaf name) [] (walk_from nothing_held) s ≡ []
unfolding clap_on_literals
seed_fine name [] h = absurd h
seed_fine name (b ∷ bs) h = simp h refl

size_walk : (s n : Text) → Plain n → walked rules [] (seeded s) n ≡ sized s n
unfolding clap_on_literals
size_walk s [] h = absurd h
size_walk s (b ∷ bs) h = simp h refl

size_fine : (name s n : Text) → IsSeed s → Plain n → turn_fault (leaf name) [] (seeded s) n ≡ []
unfolding clap_on_literals
size_fine name s [] k h = absurd h
size_fine name s (b ∷ bs) k h = simp (h, k.passes) refl

two_walk : (s n : Text) → Plain s → Plain n → walk rules [] nothing_held (s ∷ n ∷ []) ≡ sized s n
two_walk s n h k = ap (λ w. fold (walked rules []) w (n ∷ [])) (seed_walk s h) ∙ size_walk s n k

abbrev behind_two : Text → Kinds → Walk → Kinds
behind_two name first w =
    or_else first
    (or_else [] (or_else (settle_fault rules (leaf name).args_override_self w.held)
    (or_else (defaults_fault (settled rules w.held).rows rules) (check_fault (leaf name) (finished rules w.held) false))))

size_settled : (s n : Text) → IsSize n → settle_fault rules false (sized s n).held ≡ []
unfolding clap_on_literals
size_settled s n k = simp (k.passes) refl

both_fine : (name s n : Text) → IsSeed s → IsSize n → level_fault (leaf name) [] nothing_held (s ∷ n ∷ []) false [] ≡ []
unfolding walk_fault defaults_fault
both_fine name s n k l =
    let first : walk_fault (leaf name) [] (walk_from nothing_held) (s ∷ n ∷ []) ≡ [] =
    ap₂ or_else (seed_fine name s k.is_plain) (ap (λ w. walk_fault (leaf name) [] w (n ∷ [])) (seed_walk s k.is_plain) ∙ ap (λ x. or_else x []) (size_fine name s n k l.is_plain)) in
    ap₂ (behind_two name) first (two_walk s n k.is_plain l.is_plain) ∙ ap (λ x. or_else x []) (size_settled s n l)

-- what is found of two numbers
abbrev two_rows : Text → Text → List Row
two_rows s n = finished rules (sized s n).held

two_found : (s n : Text) → Plain s → Plain n → finished rules (walk rules [] nothing_held (s ∷ n ∷ [])).held ≡ two_rows s n
two_found s n h k = ap (λ (w : Walk). finished rules w.held) (two_walk s n h k)

seed_found : (s n : Text) → IsSeed s → seed_of (two_rows s n) ≡ digits_value 10 (without_leading_plus s)
seed_found s n k = ap (λ t. number_or 0 (Some t)) (as_plain s k.is_plain).0 ∙ read_seed s k

size_found : (s n : Text) → IsSize n → size_of (two_rows s n) ≡ digits_value 10 (without_leading_plus n)
size_found s n l = ap (λ t. number_or 0 (Some t)) (as_plain n l.is_plain).0 ∙ read_size n l

pub generate_taken : (own s n : Text) → IsSeed s → IsSize n → IsTaken (own ∷ codes "generate" ∷ s ∷ n ∷ [])
generate_taken own s n k l = taken_by Generate own (s ∷ n ∷ []) (both_fine (codes "generate") s n k l)

generate_rows : (own s n : Text) → Plain s → Plain n → rows_in (own ∷ codes "generate" ∷ s ∷ n ∷ []) ≡ two_rows s n
generate_rows own s n h k = rows_by Generate own (s ∷ n ∷ []) ∙ two_found s n h k

pub generate_seed : (own s n : Text) → IsSeed s → IsSize n → seed_in (own ∷ codes "generate" ∷ s ∷ n ∷ []) ≡ digits_value 10 (without_leading_plus s)
generate_seed own s n k l = ap seed_of (generate_rows own s n k.is_plain l.is_plain) ∙ seed_found s n k

pub generate_size : (own s n : Text) → IsSeed s → IsSize n → size_in (own ∷ codes "generate" ∷ s ∷ n ∷ []) ≡ digits_value 10 (without_leading_plus n)
generate_size own s n k l = ap size_of (generate_rows own s n k.is_plain l.is_plain) ∙ size_found s n l

pub bench_taken : (own s n : Text) → IsSeed s → IsSize n → IsTaken (own ∷ codes "bench" ∷ s ∷ n ∷ [])
bench_taken own s n k l = taken_by Bench own (s ∷ n ∷ []) (both_fine (codes "bench") s n k l)

bench_rows : (own s n : Text) → IsSeed s → IsSize n → rows_in (own ∷ codes "bench" ∷ s ∷ n ∷ []) ≡ two_rows s n
bench_rows own s n k l = rows_by Bench own (s ∷ n ∷ []) ∙ two_found s n k.is_plain l.is_plain

pub bench_seed : (own s n : Text) → IsSeed s → IsSize n → seed_in (own ∷ codes "bench" ∷ s ∷ n ∷ []) ≡ digits_value 10 (without_leading_plus s)
bench_seed own s n k l = ap seed_of (bench_rows own s n k l) ∙ seed_found s n k

pub bench_size : (own s n : Text) → IsSeed s → IsSize n → size_in (own ∷ codes "bench" ∷ s ∷ n ∷ []) ≡ digits_value 10 (without_leading_plus n)
bench_size own s n k l = ap size_of (bench_rows own s n k l) ∙ size_found s n l

pub bench_nodes : (own s n : Text) → IsSeed s → IsSize n → nodes_in (own ∷ codes "bench" ∷ s ∷ n ∷ []) ≡ 20000
bench_nodes own s n k l = ap nodes_of (bench_rows own s n k l)

pub bench_most_rows : (own s n : Text) → IsSeed s → IsSize n → most_rows_in (own ∷ codes "bench" ∷ s ∷ n ∷ []) ≡ 20000
bench_most_rows own s n k l = ap most_rows_of (bench_rows own s n k l)

pub bench_workers : (own s n : Text) → IsSeed s → IsSize n → workers_in (own ∷ codes "bench" ∷ s ∷ n ∷ []) ≡ 4
bench_workers own s n k l = ap workers_of (bench_rows own s n k l)

pub bench_guess : (own s n : Text) → IsSeed s → IsSize n → guess_in (own ∷ codes "bench" ∷ s ∷ n ∷ []) ≡ false
bench_guess own s n k l = ap guess_of (bench_rows own s n k l)

pub bench_history : (own s n : Text) → IsSeed s → IsSize n → history_in (own ∷ codes "bench" ∷ s ∷ n ∷ []) ≡ false
bench_history own s n k l = ap history_of (bench_rows own s n k l)
