use Rattle.std.proofs.Common.{◌≡◌, ◌++◌, drop, map}
use Rattle.bg_ast.specs.Views.{target_of}
use Rattle.bg_blocks.specs.Views.{target_variable}
use Rattle.bg_kinds.specs.Views.{ref_in}
use Rattle.bg_sorts.specs.Views.{types_in}
use Rattle.bg_sorts.proofs.known.push_targets.Given as goal

abbrev pub invariant-loop-t : goal.invariant-loop-t
invariant-loop-t l =
    map ref_in l.made.items ++ map (types_in l.known) (map target_variable (map target_of (drop l.t-index l.targets))) ≡ map ref_in l.fn.made.items ++ map (types_in l.known) (map target_variable (map target_of l.targets))
