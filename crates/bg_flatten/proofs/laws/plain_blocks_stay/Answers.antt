use Rattle.bg_flatten.proofs.Plain.{no_terms_of, same_blocks}
use Rattle.bg_flatten.proofs.laws.plain_blocks_stay.Goals as goal

pub returns-clause-terms : goal.returns-clause-terms
returns-clause-terms c = no_terms_of

pub returns-clause-flat : goal.returns-clause-flat
returns-clause-flat c = same_blocks
