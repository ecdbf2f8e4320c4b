use Rattle.bg_keep.proofs.Forms.{block_of-If, block_of-While}
use Rattle.bg_keep.proofs.stmts.block_in.Goals as goal

pub returns-in-If : goal.returns-in-If
returns-in-If c = block_of-If c.args.b.now c.in-If.field-0 c.in-If.field-1 c.in-If.otherwise c.deref.result.now c.in-If.is c.deref.ensures.value

pub returns-in-While : goal.returns-in-While
returns-in-While c =
    block_of-While c.args.b.now c.in-While.field-0 c.in-While.field-1 c.in-While.field-2 c.in-While.field-3 c.in-While.body c.deref-in-While.result.now c.in-While.is c.deref-in-While.ensures.value
