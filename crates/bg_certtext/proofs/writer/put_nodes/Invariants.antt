use Rattle.std.proofs.Common.{◌≡◌, ◌++◌, map, drop, flat_map}
use Rattle.bg_certtext.specs.Lines.{line}
use Rattle.bg_certtext.specs.Texts.{node_lines}
use Rattle.bg_certtext.specs.Views.{node_of}
use Rattle.bg_certtext.proofs.writer.put_nodes.Given as goal

abbrev pub invariant-loop-node : goal.invariant-loop-node
invariant-loop-node l = l.out.items ++ flat_map line (flat_map node_lines (map node_of (drop l.node-index l.nodes))) ≡ l.initial.out.items ++ flat_map line (flat_map node_lines (map node_of l.nodes))
