use Rattle.std.proofs.Common.{◌≡◌, ◌++◌, map, drop}
use Rattle.bg_ast.specs.Resolved.{Program}
use Rattle.bg_blocks.specs.Views.{block_of}
use Rattle.bg_incarnate.specs.Views.{passive_block_of, incarnations_of}
use Rattle.bg_incarnate.specs.Walked.{walked_of, finished, arrived_with}
use Rattle.bg_incarnate.proofs.whole.finish.Given as goal

abbrev pub invariant-loop-b : goal.invariant-loop-b
invariant-loop-b l =
    (map incarnations_of l.arrivals.items ++ arrived_with (map walked_of l.walked.items) (drop l.b-index l.blocks) ≡ map incarnations_of l.fn.arrivals.items ++ arrived_with (map walked_of l.fn.walked.items) l.blocks)
    × ((p : Program) → map passive_block_of l.made.items ++ finished (map walked_of l.walked.items) (map (block_of p) (drop l.b-index l.blocks)) ≡ finished (map walked_of l.fn.walked.items) (map (block_of p) l.blocks))
