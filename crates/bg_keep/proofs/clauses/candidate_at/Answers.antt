use Rattle.bg_keep.proofs.Forms.{candidate_there}
use Rattle.bg_keep.proofs.clauses.candidate_at.Goals as goal

pub returns-in-Some : goal.returns-in-Some
returns-in-Some c = candidate_there c.args.clauses.now c.args.at c.in-Some.k.now c.in-Some.ensures.lookup.3.0 c.in-Some.ensures.lookup.1
