use Rattle.std.proofs.Common.{◌∷◌}
use Rattle.bg_cli.specs.declared.job.Job.TheVariants.{Annotate}
use Rattle.bg_cli.proofs.Enters.{job_by}
use Rattle.bg_cli.proofs.Plain.{annotate_taken, annotate_files, annotate_guess}
use Rattle.bg_cli.proofs.laws.plain_words_of_annotate_are_taken.Goals as goal

pub returns : goal.returns
returns c = record { taken = annotate_taken; files = annotate_files; guess = annotate_guess; job = λ own f fs h. job_by Annotate own (f ∷ fs) }
