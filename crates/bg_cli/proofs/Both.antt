-- Two numbers by their options, and plain words behind them.
use Rattle.std.proofs.Common.{◌≡◌, ◌≤◌, ap, ap₂, refl, ◌∙◌, false, List, [], ◌∷◌, length, Some, None, codes, fold}
use Rattle.std.specs.Str.Parse.{digits_value, without_leading_plus}
use Rattle.clap.specs.Walk.{Text, Row, Walk, walked, walk_from, walk, nothing_held, finished, idle, option, used}
use Rattle.clap.specs.Simple.{filled}
use Rattle.clap.specs.Lexer.{usize_max}
use Rattle.clap.specs.Kinds.{or_else}
use Rattle.clap.specs.Faults.{turn_fault, walk_fault, defaults_fault, level_fault}
use Rattle.clap.proofs.OnLiterals.{clap_on_literals}
use Rattle.bg_cli.specs.Cli.{most_rows, IsTaken, Plain, AllPlain, IsBudget, rows_in, files_in, workers_in, nodes_in, most_rows_in, files_of, workers_of, nodes_of, most_rows_of, guess_of, history_of, guess_in, history_in, number_or}
use Rattle.bg_cli.specs.declared.job.Job.TheVariants.{Verify}
use Rattle.bg_cli.proofs.Enters.{leaf, rules, taken_by, rows_by}
use Rattle.bg_cli.proofs.Files.{reading, more, words_fine, level_fine}
use Rattle.bg_cli.proofs.Plain.{verify_takes}
use Rattle.bg_cli.proofs.Options.{Nodes, valued, value_row, option_walk, option_fine, value_walk, value_fine}
use Rattle.bg_cli.proofs.Written.{as_plain, read_budget}

-- the number of rows was read behind that of nodes, and no file yet
abbrev both_numbered : Text → Text → Walk
both_numbered n m =
    record {
      held = record { rows = value_row Nodes n; pending = Some (codes "rows", m ∷ []); skip = 0 };
      waiting = idle;
      position = 1;
      is_trailing = false;
      stopped = None;
    }

abbrev asked_more : Text → Walk
asked_more n =
    record (walk_from nothing_held) {
      held = record { rows = value_row Nodes n; pending = Some (codes "rows", []); skip = 0 };
      waiting = option (codes "rows");
    }

second_walk : (n : Text) → walked (rules Verify) [] (valued Nodes n) (codes "--rows") ≡ asked_more n
unfolding clap_on_literals
second_walk n = refl

second_fine : (n : Text) → IsBudget n → turn_fault (leaf Verify) [] (valued Nodes n) (codes "--rows") ≡ []
unfolding clap_on_literals
second_fine n k = simp (k.passes) refl

more_walk : (n m : Text) → Plain m → walked (rules Verify) [] (asked_more n) m ≡ both_numbered n m
unfolding clap_on_literals
more_walk n [] h = absurd h
more_walk n (b ∷ bs) h = simp h refl

more_fine : (n m : Text) → Plain m → turn_fault (leaf Verify) [] (asked_more n) m ≡ []
unfolding clap_on_literals
more_fine n [] h = absurd h
more_fine n (b ∷ bs) h = simp h refl

abbrev both_row : Text → Text → List Row
both_row n m = used (filled most_rows) (m ∷ []) (value_row Nodes n)

both_file_walk : (n m f : Text) → Plain f → walked (rules Verify) [] (both_numbered n m) f ≡ reading (both_row n m) (f ∷ [])
unfolding clap_on_literals
both_file_walk n m [] h = absurd h
both_file_walk n m (b ∷ bs) h = simp h refl

both_file_fine : (n m f : Text) → IsBudget m → Plain f → turn_fault (leaf Verify) [] (both_numbered n m) f ≡ []
unfolding clap_on_literals
both_file_fine n m [] k h = absurd h
both_file_fine n m (b ∷ bs) k h = simp (h, k.passes) refl

abbrev asks_both : Text → Text → List Text → List Text
asks_both n m ws = codes "--nodes" ∷ n ∷ codes "--rows" ∷ m ∷ ws

both_files_walk : (n m f : Text) (fs : List Text) → IsBudget n → IsBudget m → AllPlain (f ∷ fs) → walk (rules Verify) [] nothing_held (asks_both n m (f ∷ fs)) ≡ reading (both_row n m) (f ∷ fs)
both_files_walk n m f fs k l h =
    ap (λ s. fold (walked (rules Verify) []) s (n ∷ codes "--rows" ∷ m ∷ f ∷ fs)) (option_walk Nodes)
    ∙ ap (λ s. fold (walked (rules Verify) []) s (codes "--rows" ∷ m ∷ f ∷ fs)) (value_walk Nodes n k.is_plain)
    ∙ ap (λ s. fold (walked (rules Verify) []) s (m ∷ f ∷ fs)) (second_walk n)
    ∙ ap (λ s. fold (walked (rules Verify) []) s (f ∷ fs)) (more_walk n m l.is_plain)
    ∙ ap (λ s. fold (walked (rules Verify) []) s fs) (both_file_walk n m f h.0) ∙ more (rules Verify) verify_takes (both_row n m) (f ∷ []) fs h.1

both_words_fine : (n m f : Text) (fs : List Text) → IsBudget n → IsBudget m → AllPlain (f ∷ fs) → walk_fault (leaf Verify) [] (walk_from nothing_held) (asks_both n m (f ∷ fs)) ≡ []
unfolding walk_fault
both_words_fine n m f fs k l h =
    ap₂ or_else (option_fine Nodes) (ap (λ s. walk_fault (leaf Verify) [] s (n ∷ codes "--rows" ∷ m ∷ f ∷ fs)) (option_walk Nodes)
    ∙ ap₂ or_else (value_fine Nodes n k.is_plain) (ap (λ s. walk_fault (leaf Verify) [] s (codes "--rows" ∷ m ∷ f ∷ fs)) (value_walk Nodes n k.is_plain)
    ∙ ap₂ or_else (second_fine n k) (ap (λ s. walk_fault (leaf Verify) [] s (m ∷ f ∷ fs)) (second_walk n)
    ∙ ap₂ or_else (more_fine n m l.is_plain) (ap (λ s. walk_fault (leaf Verify) [] s (f ∷ fs)) (more_walk n m l.is_plain)
    ∙ ap₂ or_else (both_file_fine n m f l h.0) (ap (λ s. walk_fault (leaf Verify) [] s fs) (both_file_walk n m f h.0) ∙ words_fine (leaf Verify) verify_takes (both_row n m) (f ∷ []) fs h.1)))))

both_leaf_fine : (n m f : Text) (fs : List Text) → IsBudget n → IsBudget m → AllPlain (f ∷ fs) → length (f ∷ fs) ≤ usize_max → level_fault (leaf Verify) [] nothing_held (asks_both n m (f ∷ fs)) false [] ≡ []
unfolding defaults_fault
both_leaf_fine n m f fs k l h a =
    level_fine (leaf Verify) verify_takes (both_row n m) (asks_both n m (f ∷ fs)) f fs (both_words_fine n m f fs k l h) (both_files_walk n m f fs k l h) a refl

pub both_taken : (own n m f : Text) (fs : List Text) → IsBudget n → IsBudget m → AllPlain (f ∷ fs) → length (f ∷ fs) ≤ usize_max → IsTaken (own ∷ codes "verify" ∷ asks_both n m (f ∷ fs))
both_taken own n m f fs k l h a = taken_by Verify own (asks_both n m (f ∷ fs)) (both_leaf_fine n m f fs k l h a)

both_rows : (own n m f : Text) (fs : List Text) → IsBudget n → IsBudget m → AllPlain (f ∷ fs) → rows_in (own ∷ codes "verify" ∷ asks_both n m (f ∷ fs)) ≡ finished (rules Verify) (reading (both_row n m) (f ∷ fs)).held
both_rows own n m f fs k l h = rows_by Verify own (asks_both n m (f ∷ fs)) ∙ ap (λ (w : Walk). finished (rules Verify) w.held) (both_files_walk n m f fs k l h)

pub both_files : (own n m f : Text) (fs : List Text) → IsBudget n → IsBudget m → AllPlain (f ∷ fs) → files_in (own ∷ codes "verify" ∷ asks_both n m (f ∷ fs)) ≡ f ∷ fs
both_files own n m f fs k l h = ap files_of (both_rows own n m f fs k l h)

pub both_nodes : (own n m f : Text) (fs : List Text) → IsBudget n → IsBudget m → AllPlain (f ∷ fs) → nodes_in (own ∷ codes "verify" ∷ asks_both n m (f ∷ fs)) ≡ digits_value 10 (without_leading_plus n)
both_nodes own n m f fs k l h =
    ap nodes_of (both_rows own n m f fs k l h) ∙ ap (λ t. number_or 20000 (Some t)) (as_plain n k.is_plain).0 ∙ read_budget n k

pub both_rows_number : (own n m f : Text) (fs : List Text) → IsBudget n → IsBudget m → AllPlain (f ∷ fs) → most_rows_in (own ∷ codes "verify" ∷ asks_both n m (f ∷ fs)) ≡ digits_value 10 (without_leading_plus m)
both_rows_number own n m f fs k l h =
    ap most_rows_of (both_rows own n m f fs k l h) ∙ ap (λ t. number_or 20000 (Some t)) (as_plain m l.is_plain).0 ∙ read_budget m l

pub both_workers : (own n m f : Text) (fs : List Text) → IsBudget n → IsBudget m → AllPlain (f ∷ fs) → workers_in (own ∷ codes "verify" ∷ asks_both n m (f ∷ fs)) ≡ 4
both_workers own n m f fs k l h = ap workers_of (both_rows own n m f fs k l h)

pub both_guess : (own n m f : Text) (fs : List Text) → IsBudget n → IsBudget m → AllPlain (f ∷ fs) → guess_in (own ∷ codes "verify" ∷ asks_both n m (f ∷ fs)) ≡ false
both_guess own n m f fs k l h = ap guess_of (both_rows own n m f fs k l h)

pub both_history : (own n m f : Text) (fs : List Text) → IsBudget n → IsBudget m → AllPlain (f ∷ fs) → history_in (own ∷ codes "verify" ∷ asks_both n m (f ∷ fs)) ≡ false
both_history own n m f fs k l h = ap history_of (both_rows own n m f fs k l h)
