use Rattle.std.proofs.Common.{◌+◌, [], drop, map}
use Rattle.bg_ast.specs.Resolved.{Ex}
use Rattle.bg_ast.specs.Views.{target_of}
use Rattle.bg_places.specs.Counts.{target_nodes}
use Rattle.bg_opened.specs.Written.{opened_target}
use Rattle.bg_expanded.specs.Bodies.{IsAlike, IsCountOf, worth}
use Rattle.bg_expanded.proofs.sized.add_targets.Given as goal

abbrev pub invariant-loop-target : goal.invariant-loop-target
invariant-loop-target l =
    (o : Ex → Ex) → IsCountOf l.table o →
    IsAlike (worth l.count [] + target_nodes (map (opened_target o) (map target_of (drop l.target-index l.targets))))
    (worth l.fn.count [] + target_nodes (map (opened_target o) (map target_of l.targets)))
