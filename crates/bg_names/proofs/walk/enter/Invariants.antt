use Rattle.std.proofs.Common.{◌≡◌, ◌++◌, take, length}
use Rattle.bg_names.specs.Inside.{entered}
use Rattle.bg_names.specs.Views.{blocks_of, around_of, stacked}
use Rattle.bg_names.proofs.walk.enter.Given as goal

abbrev pub invariant-loop-label : goal.invariant-loop-label
invariant-loop-label l =
    (blocks_of l.blocks.items ≡ entered (stacked (take l.label-index l.labels)) l.block (blocks_of l.fn.blocks.items))
    × (around_of l.blocks.items ≡ stacked (take l.label-index l.labels) ++ around_of l.fn.blocks.items)
    × (take (length l.fn.blocks.items) l.blocks.items ≡ l.fn.blocks.items)
