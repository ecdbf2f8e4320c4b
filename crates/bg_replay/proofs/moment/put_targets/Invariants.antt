use Rattle.std.proofs.Common.{◌≡◌, drop, map}
use Rattle.bg_ast.specs.Views.{target_of}
use Rattle.bg_blocks.specs.Views.{target_variable}
use Rattle.bg_scalar.specs.Views.{vals_in}
use Rattle.bg_replay.specs.Acts.{put_each}
use Rattle.bg_replay.specs.Views.{moment_of}
use Rattle.bg_replay.proofs.moment.put_targets.Given as goal

abbrev pub invariant-loop-i : goal.invariant-loop-i
invariant-loop-i l =
    put_each (map target_variable (map target_of (drop l.i l.targets))) (vals_in (drop l.i l.values)) (moment_of l.moment) ≡ put_each (map target_variable (map target_of l.targets)) (vals_in l.values) (moment_of l.fn.moment)
