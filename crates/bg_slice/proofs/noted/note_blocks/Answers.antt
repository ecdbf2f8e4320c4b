use Rattle.std.proofs.Common.{rules, ◌≡◌, ◌+◌, ◌∷◌, List, map, drop, sym, ap, ◌∙◌}
use Rattle.bg_places.specs.Views.{spot_of}
use Rattle.bg_formed.specs.Used.{Use, uses}
use Rattle.bg_formed.specs.Seen.{use_of}
use Rattle.bg_formed.specs.Views.{form_block_of}
use Rattle.bg_slice.specs.Slices.{slice_block, sliced}
use Rattle.bg_slice.specs.Noted.{kept_in, noted_block, noted_blocks}
use Rattle.bg_slice.proofs.Marking.{drop_item, drop_all}
use Rattle.bg_slice.proofs.Noting.{noted_none, more_blocks, behind_first}
use Rattle.bg_slice.proofs.noted.note_blocks.Goals as goal

pub loop-b-preserved : goal.loop-b-preserved
loop-b-preserved c =
    let base = c.args.base in
    let t = spot_of c.args.target in
    let bs = c.args.blocks.now in
    let b = c.b-item.result in
    let more = map form_block_of (drop (c.loop-b.b-index + 1) bs) in
    let cut = drop_item bs c.loop-b.b-index b c.loop-b-test.true c.b-item.is in
    let later : map use_of c.pop_front.new.self.items ≡ uses t more = behind_first c.loop-b.later.items c.pop_front.new.self.items t (form_block_of b) more (c.loop-b.invariant.1 ∙ ap (λ l. uses t (map form_block_of l)) cut) c.pop_front.ensures.rest in (
      more_blocks base t (form_block_of b) more (kept_in c.loop-b.marks) (kept_in c.note_block.new.marks) (c.note_block.ensures ∙ ap (λ us. noted_block base (slice_block t us (form_block_of b)) (kept_in c.loop-b.marks)) later)
          ∙ (ap (λ l. noted_blocks base (sliced t (map form_block_of l)) (kept_in c.loop-b.marks)) (sym cut)
          ∙ c.loop-b.invariant.0),
      later,
    )

pub returns : goal.returns
returns c =
    let base = c.args.base in
    let t = spot_of c.args.target in
    sym (noted_none base (kept_in c.loop-b.marks))
    ∙ (ap (λ l. noted_blocks base (sliced t (map form_block_of l)) (kept_in c.loop-b.marks)) (sym (drop_all c.args.blocks.now c.loop-b.b-index (search rules)))
    ∙ c.loop-b.invariant.0)
