use Rattle.bg_clause.proofs.Alike.{all_truths, all_rows, all_whole, all_units, all_named}
use Rattle.bg_clause.proofs.laws.atoms_of_clauses.Goals as goal

pub returns : goal.returns
returns c = record { truths = all_truths; rows = all_rows; whole = all_whole; units = all_units; named = all_named }
