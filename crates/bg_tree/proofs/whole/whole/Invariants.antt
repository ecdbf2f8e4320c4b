use Rattle.std.proofs.Common.{◌≡◌, ◌++◌, map}
use Rattle.bg_cert.specs.Certs.{node_of}
use Rattle.bg_tree.specs.Trees.{nodes_of}
use Rattle.bg_tree.proofs.whole.whole.Given as goal

abbrev pub invariant-loop-part : goal.invariant-loop-part
invariant-loop-part l =
    map node_of l.nodes.items ++ nodes_of l.part-iterator.rest.items ≡ nodes_of l.fn.parts.items
