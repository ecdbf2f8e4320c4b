use Rattle.std.proofs.Common.{◌≡◌, map, take}
use Rattle.bg_text.specs.Views.{id_of}
use Rattle.bg_certtext.specs.Views.{node_of}
use Rattle.bg_certify.specs.Spelled.{spelled_node}
use Rattle.bg_certify.proofs.nodes.text_nodes.Given as goal

abbrev pub invariant-loop-node : goal.invariant-loop-node
invariant-loop-node l = map node_of l.made.items ≡ map (spelled_node (map id_of l.names)) (take l.node-index l.nodes)
