use Rattle.std.proofs.Common.{◌≡◌, length, map}
use Rattle.bg_places.specs.Views.{spot_of}
use Rattle.bg_formed.specs.Views.{form_block_of}
use Rattle.bg_clause.specs.Cutting.{cut_nothing, cut_told}
use Rattle.bg_clause.specs.Telling.{telling_of}
use Rattle.bg_clause.proofs.tell.tell_blocks.Given as goal

abbrev pub invariant-loop-last : goal.invariant-loop-last
invariant-loop-last l =
    cut_told l.units (spot_of l.target) (telling_of l.s) (map form_block_of l.left) ≡ cut_told l.units (spot_of l.target) (cut_nothing l.first) (map form_block_of l.blocks)

abbrev pub decreases-loop-last : goal.decreases-loop-last
decreases-loop-last l = length l.left
