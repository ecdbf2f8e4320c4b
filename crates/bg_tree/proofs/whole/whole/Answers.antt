use Rattle.std.proofs.Common.{map}
use Rattle.bg_cert.specs.Certs.{node_of}
use Rattle.bg_tree.specs.Trees.{nodes_of}
use Rattle.bg_tree.proofs.Told.{nodes_next}
use Rattle.bg_tree.proofs.whole.whole.Goals as goal

pub loop-part-preserved : goal.loop-part-preserved
loop-part-preserved c =
    nodes_next (map node_of c.loop-part.nodes.items) (map node_of c.push_part.new.nodes.items) (nodes_of c.args.parts.items) c.in-Some.part c.next.new.self.rest.items c.loop-part.part-iterator.rest.items c.in-Some.ensures.steps.0 c.in_ok-push_part.ensures c.loop-part.invariant
