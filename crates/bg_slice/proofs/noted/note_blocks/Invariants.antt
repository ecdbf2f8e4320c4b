use Rattle.std.proofs.Common.{◌≡◌, map, drop}
use Rattle.bg_places.specs.Views.{spot_of}
use Rattle.bg_formed.specs.Used.{uses}
use Rattle.bg_formed.specs.Seen.{use_of}
use Rattle.bg_formed.specs.Views.{form_block_of}
use Rattle.bg_slice.specs.Slices.{sliced}
use Rattle.bg_slice.specs.Noted.{kept_in, noted_blocks}
use Rattle.bg_slice.proofs.noted.note_blocks.Given as goal

abbrev pub invariant-loop-b : goal.invariant-loop-b
invariant-loop-b l =
    (noted_blocks l.base (sliced (spot_of l.target) (map form_block_of (drop l.b-index l.blocks))) (kept_in l.marks) ≡ noted_blocks l.base (sliced (spot_of l.target) (map form_block_of l.blocks)) (kept_in l.fn.marks))
    × (map use_of l.later.items ≡ uses (spot_of l.target) (map form_block_of (drop l.b-index l.blocks)))
