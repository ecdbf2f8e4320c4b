use Rattle.std.proofs.Common.{◌≡◌, ◌++◌, map, vec_len}
use Rattle.std.specs.Prelude.{reverse}
use Rattle.bg_ast.specs.Resolved.{Program}
use Rattle.bg_blocks.specs.Views.{block_of}
use Rattle.bg_blocks.specs.EmittedViews.{made_of}
use Rattle.bg_blocks.proofs.program.in_order.Given as goal

abbrev pub invariant-loop-block : goal.invariant-loop-block
invariant-loop-block l =
    (p : Program) → map (block_of p) l.made.items ++ reverse (map (made_of p) l.left.items) ≡ reverse (map (made_of p) l.fn.blocks.items)

abbrev pub decreases-loop-block : goal.decreases-loop-block
decreases-loop-block l = vec_len l.left
