use Rattle.bg_reread.proofs.Kept.{bare_placed, same_spells}
use Rattle.bg_reread.proofs.Twice.{decls_twice}
use Rattle.bg_reread.proofs.laws.positions_alone_are_forgotten.Goals as goal

pub returns-clause-placed : goal.returns-clause-placed
returns-clause-placed c = bare_placed

pub returns-clause-same : goal.returns-clause-same
returns-clause-same c = same_spells

pub returns-clause-twice : goal.returns-clause-twice
returns-clause-twice c = decls_twice
