use Rattle.std.proofs.Common.{[], ◌∷◌}
use Rattle.bg_cli.specs.declared.job.Job.TheVariants.{Generate}
use Rattle.bg_cli.proofs.Enters.{job_by}
use Rattle.bg_cli.proofs.Makes.{generate_taken, generate_seed, generate_size}
use Rattle.bg_cli.proofs.laws.plain_words_of_generate_are_taken.Goals as goal

pub returns : goal.returns
returns c = record { taken = generate_taken; job = λ own s n. job_by Generate own (s ∷ n ∷ []); seed = generate_seed; size = generate_size }
