use Rattle.bg_renamed.proofs.Forms.{apply_node-is}
use Rattle.bg_renamed.proofs.exprs.apply_node.Goals as goal

pub returns : goal.returns
returns c = apply_node-is c.args.pos c.args.function c.args.args
