use Rattle.bg_text.proofs.Lists.{st_of-If}
use Rattle.bg_stmts.proofs.blocks.only_if.Goals as goal

pub returns : goal.returns
returns c = st_of-If c.args.pos c.args.arms
