use Rattle.std.proofs.Common.{◌≡◌, ◌≤◌, ◌+◌, drop, map}
use Rattle.bg_certtext.specs.Views.{node_of}
use Rattle.bg_certtext.specs.Spellable.{are_trees}
use Rattle.bg_certtext.proofs.spells.is_tree.Given as goal

abbrev pub invariant-loop-node : goal.invariant-loop-node
invariant-loop-node l = (are_trees l.trees (map node_of (drop l.node-index l.nodes)) ≡ are_trees 1 (map node_of l.nodes)) × (l.trees ≤ l.node-index + 1)
