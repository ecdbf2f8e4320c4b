use Rattle.std.proofs.Common.{map, sym, ap, ◌∙◌}
use Rattle.bg_incarnate.specs.Views.{passive_block_of}
use Rattle.bg_term_table.specs.Views.{terms_in, incs_of}
use Rattle.bg_flatten.specs.Numbered.{list_behind, list_numbered, block_behind, block_numbered}
use Rattle.bg_flatten.proofs.whole.flattened.Goals as goal

pub returns-clause-terms : goal.returns-clause-terms
returns-clause-terms c =
    let n = incs_of c.args.around in
    let blocks = map passive_block_of c.args.blocks.now in
    λ fs g.
    ap (terms_in fs) c.into_terms.ensures
    ∙ (c.in_ok-blocks.ensures fs g).1
    ∙ ap (λ ts. list_behind (block_behind fs n) blocks (terms_in fs ts)) c.new-terms.ensures

pub returns-clause-blocks : goal.returns-clause-blocks
returns-clause-blocks c =
    let n = incs_of c.args.around in
    let blocks = map passive_block_of c.args.blocks.now in
    λ fs g.
    (c.in_ok-blocks.ensures fs g).0
    ∙ ap (λ ts. list_numbered (block_behind fs n) (block_numbered fs n) blocks (terms_in fs ts)) c.new-terms.ensures
