use Rattle.std.proofs.Common.{◌∷◌}
use Rattle.bg_cli.specs.declared.job.Job.TheVariants.{Check}
use Rattle.bg_cli.proofs.Enters.{job_by}
use Rattle.bg_cli.proofs.Options.{Cert, asks, option_taken, option_files, cert_file}
use Rattle.bg_cli.proofs.laws.plain_words_of_check_are_taken.Goals as goal

pub returns : goal.returns
returns c = record { taken = option_taken Cert; cert = cert_file; files = option_files Cert; job = λ own n f fs k h. job_by Check own (asks Cert n (f ∷ fs)) }
