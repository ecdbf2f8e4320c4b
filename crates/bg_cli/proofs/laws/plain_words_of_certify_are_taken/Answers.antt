use Rattle.std.proofs.Common.{◌∷◌}
use Rattle.bg_cli.specs.declared.job.Job.TheVariants.{Certify}
use Rattle.bg_cli.proofs.Enters.{job_by}
use Rattle.bg_cli.proofs.Plain.{certify_taken, certify_files}
use Rattle.bg_cli.proofs.laws.plain_words_of_certify_are_taken.Goals as goal

pub returns : goal.returns
returns c = record { taken = certify_taken; files = certify_files; job = λ own f fs h. job_by Certify own (f ∷ fs) }
