use Rattle.std.proofs.Common.{◌≡◌, ◌≤◌, take, length}
use Rattle.bg_names.specs.Inside.{block_of, has_number}
use Rattle.bg_names.specs.Views.{blocks_of, around_of}
use Rattle.bg_names.proofs.walk.find_block.Given as goal

abbrev pub invariant-loop-left : goal.invariant-loop-left
invariant-loop-left l =
    (l.left ≤ length l.blocks)
    × (block_of (blocks_of (take l.left l.blocks)) l.label ≡ block_of (blocks_of l.blocks) l.label)
    × (has_number (around_of (take l.left l.blocks)) l.label ≡ has_number (around_of l.blocks) l.label)

abbrev pub decreases-loop-left : goal.decreases-loop-left
decreases-loop-left l = l.left
