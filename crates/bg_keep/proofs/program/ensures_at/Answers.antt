use Rattle.bg_keep.proofs.Forms.{ensures_there}
use Rattle.bg_keep.proofs.program.ensures_at.Goals as goal

pub returns-in-Some : goal.returns-in-Some
returns-in-Some c = ensures_there c.args.procedures.now c.args.at c.in-Some.q.now c.deref.result.now c.in-Some.ensures.lookup.3.0 c.in-Some.ensures.lookup.1 c.deref.ensures.value
