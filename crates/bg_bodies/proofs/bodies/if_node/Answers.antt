use Rattle.bg_bodies.proofs.StForms.{if_node-is}
use Rattle.bg_bodies.proofs.bodies.if_node.Goals as goal

pub returns : goal.returns
returns c = if_node-is c.args.block c.args.arms c.args.otherwise
