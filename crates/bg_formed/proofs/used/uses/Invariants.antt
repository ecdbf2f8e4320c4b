use Rattle.std.proofs.Common.{◌≡◌, length, map}
use Rattle.bg_places.specs.Views.{spot_of}
use Rattle.bg_formed.specs.Used.{uses}
use Rattle.bg_formed.specs.Views.{form_block_of}
use Rattle.bg_formed.specs.Seen.{use_of}
use Rattle.bg_formed.proofs.Onward.{uses_on}
use Rattle.bg_formed.proofs.used.uses.Given as goal

abbrev pub invariant-loop-last : goal.invariant-loop-last
invariant-loop-last l =
    uses_on (spot_of l.target) (map form_block_of l.left) (map use_of l.made.items) ≡ uses (spot_of l.target) (map form_block_of l.blocks)

abbrev pub decreases-loop-last : goal.decreases-loop-last
decreases-loop-last l = length l.left
