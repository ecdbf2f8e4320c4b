use Rattle.bg_keep.proofs.Forms.{arms_of-If}
use Rattle.bg_keep.proofs.stmts.arms_in.Goals as goal

pub returns-in-If : goal.returns-in-If
returns-in-If c = arms_of-If c.args.b.now c.in-If.field-0 c.in-If.arms c.in-If.field-2 c.deref.result.now c.in-If.is c.deref.ensures.value
