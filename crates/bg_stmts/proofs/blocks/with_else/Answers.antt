use Rattle.bg_text.proofs.Lists.{st_of-IfElse}
use Rattle.bg_stmts.proofs.blocks.with_else.Goals as goal

pub returns : goal.returns
returns c = st_of-IfElse c.args.pos c.args.arms c.args.block
