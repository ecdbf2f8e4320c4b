use Rattle.std.proofs.Common.{◌≡◌, drop, map}
use Rattle.bg_ast.specs.Views.{program_of}
use Rattle.bg_blocks.specs.Views.{cmd_of}
use Rattle.bg_replay.specs.Ways.{acts_each}
use Rattle.bg_replay.specs.Views.{moment_of, around_of}
use Rattle.bg_replay.proofs.command.commands.Given as goal

abbrev pub invariant-loop-k : goal.invariant-loop-k
invariant-loop-k l =
    acts_each (around_of l.around) (map (cmd_of (program_of l.around.program.now)) (drop l.k-index l.ks)) (moment_of l.moment) ≡ acts_each (around_of l.around) (map (cmd_of (program_of l.around.program.now)) l.ks) (moment_of l.fn.moment)
