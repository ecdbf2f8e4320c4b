use Rattle.bg_meant.proofs.Meant.{program_fine, program_means}
use Rattle.bg_meant.proofs.laws.names_mean_a_program.Goals as goal

pub returns-clause-none : goal.returns-clause-none
returns-clause-none c = program_fine

pub returns-clause-some : goal.returns-clause-some
returns-clause-some c = program_means c.functions_do_not_recur.ensures
