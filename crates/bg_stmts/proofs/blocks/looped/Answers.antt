use Rattle.bg_text.proofs.Lists.{st_of-While}
use Rattle.bg_stmts.proofs.blocks.looped.Goals as goal

pub returns : goal.returns
returns c = st_of-While c.args.pos c.args.guard c.args.invariants c.args.block
