use Rattle.bg_bodies.proofs.StForms.{while_node-is}
use Rattle.bg_bodies.proofs.bodies.while_node.Goals as goal

pub returns : goal.returns
returns c = while_node-is c.args.block c.args.pos c.args.g c.args.ks c.args.ss
