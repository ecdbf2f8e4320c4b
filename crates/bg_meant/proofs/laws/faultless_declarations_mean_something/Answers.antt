use Rattle.bg_meant.proofs.DeclMeanings.{decls_fine, decls_mean}
use Rattle.bg_meant.proofs.laws.faultless_declarations_mean_something.Goals as goal

pub returns-clause-none : goal.returns-clause-none
returns-clause-none c = decls_fine

pub returns-clause-some : goal.returns-clause-some
returns-clause-some c = decls_mean
