use Rattle.std.proofs.Common.{◌∷◌}
use Rattle.bg_cli.specs.declared.job.Job.TheVariants.{Verify}
use Rattle.bg_cli.proofs.Enters.{job_by}
use Rattle.bg_cli.proofs.Plain.{verify_taken, verify_files, verify_nodes, verify_rows, verify_workers, verify_guess, verify_history}
use Rattle.bg_cli.proofs.laws.plain_words_are_taken.Goals as goal

pub returns : goal.returns
returns c = record { taken = verify_taken; files = verify_files; nodes = verify_nodes; rows = verify_rows; workers = verify_workers; guess = verify_guess; history = verify_history; job = λ own f fs h. job_by Verify own (f ∷ fs) }
