use Rattle.bg_opening.proofs.Forms.{apply_node-is}
use Rattle.bg_opening.proofs.nodes.apply_node.Goals as goal

pub returns : goal.returns
returns c = apply_node-is c.args.pos c.args.function c.args.args
