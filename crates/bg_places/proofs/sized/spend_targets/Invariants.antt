use Rattle.std.proofs.Common.{◌≡◌, ◌-◌, drop, map}
use Rattle.bg_ast.specs.Views.{target_of}
use Rattle.bg_places.specs.Counts.{target_nodes}
use Rattle.bg_places.proofs.sized.spend_targets.Given as goal

abbrev pub invariant-loop-target : goal.invariant-loop-target
invariant-loop-target l = l.rest - target_nodes (map target_of (drop l.target-index l.targets)) ≡ l.left - target_nodes (map target_of l.targets)
