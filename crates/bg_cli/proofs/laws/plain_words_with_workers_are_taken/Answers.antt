use Rattle.bg_cli.proofs.Options.{Workers, option_taken, option_files, workers_nodes, workers_rows_number, workers_number, option_guess, option_history}
use Rattle.bg_cli.proofs.laws.plain_words_with_workers_are_taken.Goals as goal

pub returns : goal.returns
returns c = record { taken = option_taken Workers; files = option_files Workers; nodes = workers_nodes; rows = workers_rows_number; workers = workers_number; guess = option_guess Workers; history = option_history Workers }
