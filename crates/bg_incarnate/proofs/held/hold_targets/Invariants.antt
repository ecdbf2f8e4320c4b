use Rattle.std.proofs.Common.{◌≡◌, map, drop}
use Rattle.bg_ast.specs.Views.{target_of}
use Rattle.bg_blocks.specs.Views.{target_variable}
use Rattle.bg_passive.specs.Incarnations.{hold_all}
use Rattle.bg_incarnate.specs.Views.{held_env}
use Rattle.bg_incarnate.proofs.held.hold_targets.Given as goal

abbrev pub invariant-loop-i : goal.invariant-loop-i
invariant-loop-i l =
    hold_all (map target_variable (map target_of (drop l.i l.targets))) (drop l.i l.made) (held_env l.held) ≡ hold_all (map target_variable (map target_of l.targets)) l.made (held_env l.fn.held)
