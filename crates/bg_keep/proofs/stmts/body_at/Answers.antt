use Rattle.bg_keep.proofs.Forms.{body_there}
use Rattle.bg_keep.proofs.stmts.body_at.Goals as goal

pub returns-in-Some : goal.returns-in-Some
returns-in-Some c = body_there c.args.arms.now c.args.at c.in-Some.a.now c.deref.result.now c.in-Some.ensures.lookup.3.0 c.in-Some.ensures.lookup.1 c.deref.ensures.value
