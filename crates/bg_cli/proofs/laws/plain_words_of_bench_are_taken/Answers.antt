use Rattle.std.proofs.Common.{[], ◌∷◌}
use Rattle.bg_cli.specs.declared.job.Job.TheVariants.{Bench}
use Rattle.bg_cli.proofs.Enters.{job_by}
use Rattle.bg_cli.proofs.Makes.{bench_taken, bench_seed, bench_size, bench_nodes, bench_most_rows, bench_workers, bench_guess, bench_history}
use Rattle.bg_cli.proofs.laws.plain_words_of_bench_are_taken.Goals as goal

pub returns : goal.returns
returns c = record { taken = bench_taken; job = λ own s n. job_by Bench own (s ∷ n ∷ []); seed = bench_seed; size = bench_size; nodes = bench_nodes; rows = bench_most_rows; workers = bench_workers; guess = bench_guess; history = bench_history }
