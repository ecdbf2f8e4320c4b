use Rattle.bg_cli.proofs.Both.{both_taken, both_files, both_nodes, both_rows_number, both_workers, both_guess, both_history}
use Rattle.bg_cli.proofs.laws.plain_words_with_two_numbers_are_taken.Goals as goal

pub returns : goal.returns
returns c = record { taken = both_taken; files = both_files; nodes = both_nodes; rows = both_rows_number; workers = both_workers; guess = both_guess; history = both_history }
