use Rattle.bg_keep.proofs.Forms.{block_there}
use Rattle.bg_keep.proofs.program.block_at.Goals as goal

pub returns-in-Some : goal.returns-in-Some
returns-in-Some c = block_there c.args.implementations.now c.args.at c.in-Some.m.now c.deref.result.now c.in-Some.ensures.lookup.3.0 c.in-Some.ensures.lookup.1 c.deref.ensures.value
