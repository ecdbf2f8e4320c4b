use Rattle.std.proofs.Common.{◌≡◌, length, map}
use Rattle.bg_ast.specs.Views.{program_of}
use Rattle.bg_blocks.specs.Views.{block_of}
use Rattle.bg_replay.specs.Ways.{runs}
use Rattle.bg_replay.specs.Views.{moment_of, around_of}
use Rattle.bg_replay.proofs.run.run.Given as goal

abbrev pub invariant-loop-b : goal.invariant-loop-b
invariant-loop-b l =
    runs (around_of l.around) 0 (map (block_of (program_of l.around.program.now)) l.rest) (moment_of l.moment) ≡ runs (around_of l.around) 0 (map (block_of (program_of l.around.program.now)) l.fn.blocks) (moment_of l.fn.moment)

abbrev pub decreases-loop-b : goal.decreases-loop-b
decreases-loop-b l = length l.rest
