use Rattle.std.proofs.Common.{map, sym, ap, ◌∙◌}
use Rattle.bg_incarnate.specs.Views.{cmds_of, edge_of, passive_block_of}
use Rattle.bg_term_table.specs.Views.{terms_in, incs_of}
use Rattle.bg_flatten.proofs.Pieces.{block_made}
use Rattle.bg_flatten.proofs.blocks.block.Goals as goal

pub returns : goal.returns
returns c =
    λ fs g.
    let old = terms_in fs c.args.terms.now.terms.items in
    let mid = terms_in fs c.cmds.new.terms.terms.items in
    let new = terms_in fs c.edges.new.terms.terms.items in
    block_made fs (incs_of c.args.around) old mid new _ _ (passive_block_of c.args.b.now) (cmds_of c.in_ok-cmds.cmds.items) (map edge_of c.in_ok-next.next.items) (ap cmds_of c.deref.ensures.value) (ap (map edge_of) c.deref-2.ensures.value) (c.in_ok-cmds.ensures fs g) (c.in_ok-next.ensures fs g)
