use Rattle.std.proofs.Common.{◌≡◌, ◌<◌, [], length, map, ap, ◌∙◌, arith}
use Rattle.std.proofs.lemmas.Bool.Decides.{nat_tests}
use Rattle.bg_incarnate.specs.Views.{passive_block_of}
use Rattle.bg_kinds.specs.Views.{ref_in}
use Rattle.bg_flat.specs.Blocks.{supposed, in_front}
use Rattle.bg_flat.specs.Fronts.{stated}
use Rattle.bg_term_table.specs.Views.{terms_in, incs_of}
use Rattle.bg_numbered.specs.Lines.{instances_in}
use Rattle.bg_term_table.specs.Lines.{lines_of}
use Rattle.bg_fronts.proofs.Fronts.{ahead, in_front_is, none_in_front}
use Rattle.bg_fronts.proofs.blocks.behind.Goals as goal

pub returns-then-is_empty : goal.returns-then-is_empty
returns-then-is_empty c =
    let flats = map passive_block_of c.args.flats.now in
    let bs = c.in_ok-blocks.field-0.blocks.items in
    let empty : length bs ≡ 0 = let h = c.is_empty.ensures in let k = c.if-is_empty.true in grind (arith, nat_tests, h, k) in
    λ fs plain.
    none_in_front (stated c.args.count (terms_in fs c.args.terms.now) (instances_in (lines_of c.args.lines.now))) bs flats empty (c.in_ok-blocks.ensures.blocks [] (ap (map ref_in) c.nothing-around.ensures.results) ∙ c.plain_blocks_stay.ensures.flat [] (incs_of c.nothing-around.result) flats plain)

pub returns : goal.returns
returns c =
    let flats = map passive_block_of c.args.flats.now in
    let bs = c.in_ok-blocks.field-0.blocks.items in
    let some : 0 < length bs = let h = c.is_empty.ensures in let k = c.if-is_empty.false in grind (arith, nat_tests, h, k) in
    λ fs plain.
    let front = stated c.args.count (terms_in fs c.args.terms.now) (instances_in (lines_of c.args.lines.now)) in
    in_front_is front bs c.index_mut.result.now c.replace-first.new.dest c.in_ok-blocks-2.field-0 some (c.in_ok-blocks-2.ensures ∙ ap (λ ks. ahead ks (passive_block_of c.replace-first.result)) (c.in_ok-front.ensures fs) ∙ ap (λ b. ahead (supposed front) (passive_block_of b)) (c.replace-first.ensures.value ∙ c.index_mut.ensures.value))
    ∙ ap (in_front front) (c.in_ok-blocks.ensures.blocks [] (ap (map ref_in) c.nothing-around.ensures.results) ∙ c.plain_blocks_stay.ensures.flat [] (incs_of c.nothing-around.result) flats plain)
