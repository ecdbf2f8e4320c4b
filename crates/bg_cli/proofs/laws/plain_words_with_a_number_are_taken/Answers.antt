use Rattle.bg_cli.proofs.Options.{Nodes, option_taken, option_files, nodes_number, nodes_rows_number, nodes_workers, option_guess, option_history}
use Rattle.bg_cli.proofs.laws.plain_words_with_a_number_are_taken.Goals as goal

pub returns : goal.returns
returns c = record { taken = option_taken Nodes; files = option_files Nodes; nodes = nodes_number; rows = nodes_rows_number; workers = nodes_workers; guess = option_guess Nodes; history = option_history Nodes }
