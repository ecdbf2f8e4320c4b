use Rattle.std.proofs.Common.{◌≡◌, true, false, map, sym, ap, ◌∙◌, subst}
use Rattle.std.specs.Prelude.{is_some}
use Rattle.bg_ast.specs.Meaning.{meaning_of}
use Rattle.bg_ast.specs.Views.{program_of}
use Rattle.bg_incarnate.specs.Views.{passive_block_of}
use Rattle.bg_flat.specs.Blocks.{in_front}
use Rattle.bg_flat.specs.Fronts.{stated}
use Rattle.bg_flatten.specs.Plain.{PlainBlocks}
use Rattle.bg_numbered.specs.Lines.{instances_in}
use Rattle.bg_term_table.specs.Views as table
use Rattle.bg_term_table.specs.Lines.{lines_of}
use Rattle.bg_ahead.specs.Exact.{blanks}
use Rattle.bg_task.proofs.LawTypes.{sort_law}
use Rattle.bg_task.proofs.Prepares.{encodes_some, exact_some, listed_some}
use Rattle.bg_task.proofs.Ahead.{blanks_plain, front_is, front_sorts, own_ahead}
use Rattle.bg_task.proofs.behind.atoms_behind.Goals as goal

pub unreachable-requires : goal.unreachable-requires
unreachable-requires c =
    let p = program_of c.args.program.now in
    let P = meaning_of p in
    let w = c.args.prepared.now in
    let n = c.requires.prepared.0 in
    let h = c.requires.prepared.1 in
    let ls = lines_of c.args.lines.now in
    let lined = c.in_ok-terms.ensures n h in
    let none = ap (map passive_block_of) c.deref-3.ensures.value ∙ c.in_ok-blanks.ensures ∙ ap (λ l. blanks (map passive_block_of l)) c.deref.ensures.value in
    let plain = subst PlainBlocks (sym none) (blanks_plain (map passive_block_of w.flats.items)) in
    let terms = ap (table.terms_in P.functions) c.deref-2.ensures.value ∙ lined.terms in
    let made = c.in_ok-blocks.ensures P.functions plain in
    let blocks = ap (map passive_block_of) c.deref-5.ensures.value ∙ front_is p n w h c.requires.kept ls (table.terms_in P.functions c.deref-2.result.now) (map passive_block_of c.deref-3.result.now) (map passive_block_of c.in_ok-blocks.blocks.items) terms none made in
    let law = sort_law c.passive_blocks_have_terms.ensures c.passive_blocks_are_linear.ensures c.blocks_behind_lines_are_sorted.ensures in
    let sorted = front_sorts p n w h law c.requires.typed c.requires.scalars ls c.deref-4.result.now c.in_ok-candidates.candidates (map passive_block_of c.deref-5.result.now) (c.deref-4.ensures.value ∙ lined.sorts) c.in_ok-candidates.ensures blocks in
    let bad : false ≡ true = sym (ap is_some c.in_default.is) ∙ (c.in_ok-front.ensures.none ∙ sorted) in
    cc

pub returns : goal.returns
returns c n h =
    let p = program_of c.args.program.now in
    let P = meaning_of p in
    let w = c.args.prepared.now in
    let ls = lines_of c.args.lines.now in
    let lined = c.in_ok-terms.ensures n h in
    let none = ap (map passive_block_of) c.deref-3.ensures.value ∙ c.in_ok-blanks.ensures ∙ ap (λ l. blanks (map passive_block_of l)) c.deref.ensures.value in
    let plain = subst PlainBlocks (sym none) (blanks_plain (map passive_block_of w.flats.items)) in
    let terms = ap (table.terms_in P.functions) c.deref-2.ensures.value ∙ lined.terms in
    let made = c.in_ok-blocks.ensures P.functions plain in
    let blocks = ap (map passive_block_of) c.deref-5.ensures.value ∙ front_is p n w h c.requires.kept ls (table.terms_in P.functions c.deref-2.result.now) (map passive_block_of c.deref-3.result.now) (map passive_block_of c.in_ok-blocks.blocks.items) terms none made in
    let law = sort_law c.passive_blocks_have_terms.ensures c.passive_blocks_are_linear.ensures c.blocks_behind_lines_are_sorted.ensures in
    let ss = c.deref-4.result.now in
    let k = c.in_ok-candidates.candidates in
    let bs = map passive_block_of c.deref-5.result.now in
    let front = c.in-Some.front in
    let encodes = encodes_some ss k bs c.in_ok-front.field-0 front c.in-Some.is c.in_ok-front.ensures.first c.in_ok-front.ensures.terms c.in_ok-front.ensures.said c.in_ok-front.ensures.below c.in_ok-front.ensures.rows c.in_ok-front.ensures.denials c.in_ok-front.ensures.inside in
    let exact = exact_some ss bs c.in_ok-front.field-0 front c.in-Some.is c.in_ok-front.ensures.exact in
    let listed = listed_some ss bs c.in_ok-front.field-0 front c.in-Some.is c.in_ok-front.ensures.listed in
    own_ahead p n w h law c.requires.typed c.requires.scalars ls c.blocks_with_more_in_front_are_exact.ensures c.blocks_with_more_in_front_say_the_same.ensures front c.in_ok-made.made c.in_ok-made.ensures ss k bs (c.deref-4.ensures.value ∙ lined.sorts) c.in_ok-candidates.ensures blocks encodes exact listed
