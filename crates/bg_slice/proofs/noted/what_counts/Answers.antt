use Rattle.std.proofs.Common.{rules, ◌≡◌, false, map, replicate, ap, ◌∙◌}
use Rattle.bg_places.specs.Views.{spot_of}
use Rattle.bg_formed.specs.Views.{form_block_of}
use Rattle.bg_slice.specs.Slices.{guards_blocks, sliced}
use Rattle.bg_slice.specs.Marks.{marked}
use Rattle.bg_slice.specs.Noted.{KeptOf}
use Rattle.bg_slice.proofs.Guarding.{guards_are}
use Rattle.bg_slice.proofs.noted.what_counts.Goals as goal

pub returns-clause-named : goal.returns-clause-named
returns-clause-named c =
    let left = sliced (spot_of c.args.target) (map form_block_of c.args.blocks.now) in
    let none : c.in_ok-vec-2.field-0.items ≡ replicate c.args.candidates false = search rules in
    ap (λ (m : KeptOf). m.named) c.in_ok-note_blocks.ensures
    ∙ (ap (λ l. marked (λ j. guards_blocks j left) 0 l) none ∙ guards_are left c.args.candidates)
