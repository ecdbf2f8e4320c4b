-- A command's name and plain words are taken, and ask what they say.
use Rattle.std.proofs.Common.{◌≡◌, ◌≤◌, ap, refl, ◌∙◌, false, List, [], ◌∷◌, length, codes}
use Rattle.clap.specs.Walk.{Text, Walk, finished}
use Rattle.clap.specs.Lexer.{usize_max}
use Rattle.clap.specs.Faults.{defaults_fault}
use Rattle.bg_cli.specs.Cli.{IsTaken, AllPlain, rows_in, files_in, workers_in, nodes_in, most_rows_in, files_of, workers_of, nodes_of, most_rows_of, guess_of, history_of, guess_in, history_in}
use Rattle.bg_cli.specs.declared.job.Job.{Job}
use Rattle.bg_cli.specs.declared.job.Job.TheVariants.{Verify, Annotate, Certify}
use Rattle.bg_cli.proofs.Enters.{name_of, leaf, rules, taken_by, rows_by}
use Rattle.bg_cli.proofs.Files.{TakesFiles, reading, files_walk, files_fine, level_fine}

pub verify_takes : TakesFiles (rules Verify)
verify_takes = record { here = refl; named = refl }

annotate_takes : TakesFiles (rules Annotate)
annotate_takes = record { here = refl; named = refl }

certify_takes : TakesFiles (rules Certify)
certify_takes = record { here = refl; named = refl }

plain_rows : (j : Job) → TakesFiles (rules j) → (own f : Text) (fs : List Text) → AllPlain (f ∷ fs) → rows_in (own ∷ name_of j ∷ f ∷ fs) ≡ finished (rules j) (reading [] (f ∷ fs)).held
plain_rows j t own f fs h = rows_by j own (f ∷ fs) ∙ ap (λ (w : Walk). finished (rules j) w.held) (files_walk (rules j) t f fs h)

pub verify_taken : (own f : Text) (fs : List Text) → AllPlain (f ∷ fs) → length (f ∷ fs) ≤ usize_max → IsTaken (own ∷ codes "verify" ∷ f ∷ fs)
unfolding defaults_fault
verify_taken own f fs h n =
    taken_by Verify own (f ∷ fs) (level_fine (leaf Verify) verify_takes [] (f ∷ fs) f fs (files_fine (leaf Verify) verify_takes f fs h) (files_walk (rules Verify) verify_takes f fs h) n refl)

pub annotate_taken : (own f : Text) (fs : List Text) → AllPlain (f ∷ fs) → length (f ∷ fs) ≤ usize_max → IsTaken (own ∷ codes "annotate" ∷ f ∷ fs)
unfolding defaults_fault
annotate_taken own f fs h n =
    taken_by Annotate own (f ∷ fs) (level_fine (leaf Annotate) annotate_takes [] (f ∷ fs) f fs (files_fine (leaf Annotate) annotate_takes f fs h) (files_walk (rules Annotate) annotate_takes f fs h) n refl)

pub certify_taken : (own f : Text) (fs : List Text) → AllPlain (f ∷ fs) → length (f ∷ fs) ≤ usize_max → IsTaken (own ∷ codes "certify" ∷ f ∷ fs)
unfolding defaults_fault
certify_taken own f fs h n =
    taken_by Certify own (f ∷ fs) (level_fine (leaf Certify) certify_takes [] (f ∷ fs) f fs (files_fine (leaf Certify) certify_takes f fs h) (files_walk (rules Certify) certify_takes f fs h) n refl)

pub verify_files : (own f : Text) (fs : List Text) → AllPlain (f ∷ fs) → files_in (own ∷ codes "verify" ∷ f ∷ fs) ≡ f ∷ fs
verify_files own f fs h = ap files_of (plain_rows Verify verify_takes own f fs h)

pub verify_rows : (own f : Text) (fs : List Text) → AllPlain (f ∷ fs) → most_rows_in (own ∷ codes "verify" ∷ f ∷ fs) ≡ 20000
verify_rows own f fs h = ap most_rows_of (plain_rows Verify verify_takes own f fs h)

pub verify_nodes : (own f : Text) (fs : List Text) → AllPlain (f ∷ fs) → nodes_in (own ∷ codes "verify" ∷ f ∷ fs) ≡ 20000
verify_nodes own f fs h = ap nodes_of (plain_rows Verify verify_takes own f fs h)

pub verify_workers : (own f : Text) (fs : List Text) → AllPlain (f ∷ fs) → workers_in (own ∷ codes "verify" ∷ f ∷ fs) ≡ 4
verify_workers own f fs h = ap workers_of (plain_rows Verify verify_takes own f fs h)

pub verify_guess : (own f : Text) (fs : List Text) → AllPlain (f ∷ fs) → guess_in (own ∷ codes "verify" ∷ f ∷ fs) ≡ false
verify_guess own f fs h = ap guess_of (plain_rows Verify verify_takes own f fs h)

pub verify_history : (own f : Text) (fs : List Text) → AllPlain (f ∷ fs) → history_in (own ∷ codes "verify" ∷ f ∷ fs) ≡ false
verify_history own f fs h = ap history_of (plain_rows Verify verify_takes own f fs h)

pub annotate_files : (own f : Text) (fs : List Text) → AllPlain (f ∷ fs) → files_in (own ∷ codes "annotate" ∷ f ∷ fs) ≡ f ∷ fs
annotate_files own f fs h = ap files_of (plain_rows Annotate annotate_takes own f fs h)

pub annotate_guess : (own f : Text) (fs : List Text) → AllPlain (f ∷ fs) → guess_in (own ∷ codes "annotate" ∷ f ∷ fs) ≡ false
annotate_guess own f fs h = ap guess_of (plain_rows Annotate annotate_takes own f fs h)

pub certify_files : (own f : Text) (fs : List Text) → AllPlain (f ∷ fs) → files_in (own ∷ codes "certify" ∷ f ∷ fs) ≡ f ∷ fs
certify_files own f fs h = ap files_of (plain_rows Certify certify_takes own f fs h)
